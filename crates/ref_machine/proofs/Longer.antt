-- A program over the machine's own table of types.
use Rattle.std.proofs.Common.{arith, ◌≡◌, ℕ, ◌+◌, ◌<◌, Some, length, length-append, refl}
use Rattle.c_types.specs.declared.term.TypeId.{TypeId}
use Rattle.c_types.specs.Table.{Table}
use Rattle.c_types.specs.Made.{IsMade}
use Rattle.core_tree.specs.declared.node.Program.{Program}
use Rattle.core_tree.specs.Typed.{trees_in}
use Rattle.core_tree.specs.Range.{InRange}
use Rattle.obj_made.specs.declared.object.Content.{Content}
use Rattle.obj_made.specs.declared.object.Content.TheVariants.{Function, Blob, Scalar, Scalars, Typed, Elements}
use Rattle.obj_space.specs.Space.{locations_in}
use Rattle.obj_space.specs.Spots.{type_made}
use Rattle.covering_laws.proofs.object_contents.Contents.{contents_known}
use Rattle.covering_laws.proofs.covered_needs.Grounded.{complete_known}
use Rattle.ref_cells.specs.Places.{IsKnown}
use Rattle.ref_state.specs.ref_types.Types.{id, types_with, library_terms}
use Rattle.ref_frames.specs.Running.{element_in}
use Rattle.ref_frames.specs.Made.{AreElementsKnown}
use Rattle.ref_machine.specs.Types.{trees_with}

pub longer : (table : Table) → length (types_with table).terms ≡ length table.terms + 8
unfolding types_with
longer table = omega (arith, length-append table.terms (library_terms (length table.terms)))

pub within_longer : (table : Table) (i : ℕ) → i < length table.terms → i < length (types_with table).terms
within_longer table i less = omega (arith, longer table)

pub range_with : (p : Program) → InRange (trees_in p) → InRange (trees_with p)
range_with p r = record {
  types = λ n node at. within_longer p.types node.ty.0 (r.types n node at);
  children = r.children;
  entities = r.entities;
  lists = r.lists;
  entity_types = λ e x at. within_longer p.types x.ty.0 (r.entity_types e x at);
  owners = r.owners;
  bodies = r.bodies;
}

content_known : (p : Program) (content : Content) → ((to : TypeId) → type_made content ≡ Some to → to.0 < length p.types.terms)
    → IsKnown (length (types_with p.types).terms) (element_in (id (length p.types.terms)) content)
content_known p Function h = tt
content_known p Blob h = tt
content_known p (Scalar number) h = tt
content_known p (Scalars number) h = omega (arith, longer p.types)
content_known p (Typed to) h = tt
content_known p (Elements to) h = within_longer p.types to.0 (h to refl)

pub elements_known : (p : Program) → IsMade p.types → AreElementsKnown (length (types_with p.types).terms) (id (length p.types.terms)) (locations_in p)
elements_known p made l x at =
    content_known p x.content (λ to is. complete_known p.types to.0 ((contents_known p l x made at).1 to is))
