-- What stays of a unit, and what its last nodes are.
use Rattle.std.specs.Prelude.{ℕ, ◌≡◌, ◌<◌, ◌≤◌, length}
use Rattle.c_types.specs.Trees.{Ctype}
use Rattle.c_types.specs.Table.{type_of, members_in, extent_in}
use Rattle.core_tree.specs.declared.node.Unit.{Unit}
use Rattle.core_tree.specs.Typed.{trees_of}
use Rattle.core_tree.specs.Range.{Under}
use Rattle.core_nodes.specs.Standing.{core_at, parts_in}

-- the first so many nodes, the types, the tags with their members and layouts, and the entities are what they were
pub record Keeps (from : ℕ) (old new : Unit) : Type 0 where
  pub more : from ≤ length new.nodes.items
  pub cores : (i : ℕ) → i < from → core_at new i ≡ core_at old i
  pub terms : length old.types.terms ≤ length new.types.terms
  pub types : (id : ℕ) → id < length old.types.terms → type_of new.types id ≡ type_of old.types id
  pub tags : new.types.tags ≡ old.types.tags
  pub parts : (tag : ℕ)
      → parts_in new.types (members_in new.types tag) ≡ parts_in old.types (members_in old.types tag)
  pub extents : (t : Ctype) → extent_in new.types t ≡ extent_in old.types t
  pub entities : new.entities.items ≡ old.entities.items

-- each node from a number on stands under that node, or is it
abbrev pub AllUnder : Unit → ℕ → ℕ → Type 0
AllUnder u from top = (n : ℕ) → from ≤ n → n < length u.nodes.items → Under (trees_of u) top n
