-- Units that grow while the rows of a tree are made: by nodes and types, or by the members of a structure or union.
use Rattle.std.specs.Prelude.{ℕ, ◌≡◌, ◌<◌, ◌≤◌, ◌==◌, List, [], ◌∷◌, map, length, Option, Some, None, if◌then◌else◌}
use Rattle.c_types.specs.Layout.{Extent, member_extent}
use Rattle.c_types.specs.Table.{type_of, members_in, look_in}
use Rattle.core_tree.specs.declared.node.Unit.{Unit}
use Rattle.c_inits.specs.Made.{Part, TagParts}
use Rattle.c_results.specs.passed.core_nodes.Standing.{core_at, parts_in, Builds, HasOnce}
use Rattle.c_senses.specs.Tree.{Source}
use Rattle.c_senses.specs.Sense.{Sense, Nothing}
use Rattle.c_senses.specs.Tags.{completed_from, types_of_parts}

-- the structure or union that a node completes, if it is a specifier with a list of members
abbrev pub completed_at : Source → (ℕ → Sense) → ℕ → List TagParts
completed_at s sense at = completed_from s (Nothing ∷ []) sense at

-- a unit in which one tag more is complete, with those members; all else is as it was
pub record Completes (old new : Unit) (tag : ℕ) (parts : List Part) : Type 0 where
  pub more : length old.nodes.items ≤ length new.nodes.items
  pub cores : (i : ℕ) → i < length old.nodes.items → core_at new i ≡ core_at old i
  pub terms : length old.types.terms ≤ length new.types.terms
  pub types : (id : ℕ) → id < length old.types.terms → type_of new.types id ≡ type_of old.types id
  pub tags : new.types.tags ≡ old.types.tags
  pub entities : new.entities.items ≡ old.entities.items
  pub was_open : members_in old.types tag ≡ None
  pub members : (t : ℕ)
      → parts_in new.types (members_in new.types t)
      ≡ (if tag == t then Some parts else parts_in old.types (members_in old.types t))
  pub look : (t : ℕ)
      → look_in new.types t
      ≡ (if tag == t then Some (map (member_extent (look_in old.types)) (types_of_parts parts))
      else look_in old.types t)
  pub once : HasOnce old.types → HasOnce new.types

-- what a row does to its unit, by what its node completes
abbrev pub Grows : Unit → Unit → List TagParts → Type 0
Grows old new [] = Builds old new
Grows old new (c ∷ rest) = Completes old new c.tag c.members
