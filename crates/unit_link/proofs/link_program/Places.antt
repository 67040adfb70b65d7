-- Where a unit's entities stand.
use Rattle.std.proofs.Common.{◌≡◌, ℕ, Option, Some, None, List, refl, sym, ap, ◌∙◌}
use Rattle.std.specs.List.{slice_get}
use Rattle.core_tree.specs.declared.node.Unit.{Unit}
use Rattle.core_tree.specs.declared.node.Entity.{Entity}
use Rattle.link_model.specs.declared.item.Item.{Item}
use Rattle.link_names.specs.Externals.{entities_if, entity_at}

none_some : {X : Type 0} → {x : X} → ◌≡◌ {A = Option X} None (Some x) → ⊥
none_some h = cc

-- an entity of the units is one of its unit
pub unit_of : (units : List Unit) (a : Item) (x : Entity) → entity_at units a ≡ Some x → (y : Unit) × (slice_get units a.unit ≡ Some y) × (slice_get y.entities.items a.number ≡ Some x)
unit_of units a x at = here (slice_get units a.unit) refl at
  where
    here : (o : Option Unit) → slice_get units a.unit ≡ o → slice_get (entities_if o) a.number ≡ Some x → (y : Unit) × (slice_get units a.unit ≡ Some y) × (slice_get y.entities.items a.number ≡ Some x)
    here None e h = absurd (none_some h)
    here (Some y) e h = (y, e, h)
