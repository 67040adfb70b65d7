-- The scene of units whose types stand in one table is right.
use Rattle.std.proofs.Common.{◌≡◌, ℕ, ◌+◌, ◌<◌, ◌^◌, Some, length, refl, sym, ap, subst, ◌∙◌, arith}
use Rattle.std.specs.List.{slice_get}
use Rattle.core_tree.specs.declared.node.Unit.{Unit}
use Rattle.core_tree.specs.declared.node.Entity.{Entity}
use Rattle.link_model.specs.declared.item.Item.{Item}
use Rattle.link_model.specs.Units.{item, types_if}
use Rattle.link_names.specs.declared.declared.Scene.{Scene}
use Rattle.link_names.specs.declared.fault.LinkFault.{LinkFault}
use Rattle.link_names.specs.declared.fault.LinkFault.TheVariants.{Conflict, Twice, Undefined, NoMain, NoEntry, OutOfMemory}
use Rattle.link_names.specs.Externals.{AreDeclarations, entities_if, entity_at}
use Rattle.link_names.specs.Said.{IsFaultUnless}
use Rattle.link_names.specs.Scene.{IsScene}
use Rattle.unit_link.specs.Needs.{AreLinkable}
use Rattle.unit_link.specs.link_program.Merging.{AreMerged}
use Rattle.unit_link.proofs.link_program.Places.{unit_of}

pub scene_right : (s : Scene) → AreLinkable s.units.now → AreMerged s.units.now s.type_starts.now s.types.now → length s.types.now.terms < 2 ^ 32 → length s.units.now < 2 ^ 32
    → ((u : ℕ) → length (entities_if (slice_get s.units.now u)) < 2 ^ 32) → AreDeclarations s.units.now s.declared.now → IsScene s
scene_right s units merged room many small declared = record {
  room = room;
  many = many;
  small = small;
  starts = merged.enough;
  types = λ a x at.
      let (y, there, here) = unit_of s.units.now a x at in
      let own = (units.valid a.unit y there).trees.in_range.entity_types a.number x here in
      let is_type = subst (λ o. x.ty.0 < length (types_if o).terms) (sym there) own in
      (merged.merged.types (item a.unit x.ty.0) is_type).within;
  declared = declared;
}

-- what follows from a fault
pub fault_then : {P Q : Type 0} (f : LinkFault) → (P → Q) → IsFaultUnless f P → IsFaultUnless f Q
fault_then (Conflict name u) g h = g h
fault_then (Twice name u) g h = g h
fault_then (Undefined place name) g h = g h
fault_then NoMain g h = g h
fault_then (NoEntry name) g h = g h
fault_then OutOfMemory g h = tt
