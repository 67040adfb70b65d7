-- What goes on standing while a structure or union is completed.
use Rattle.std.specs.Prelude.{ℕ, ◌≡◌, ◌==◌, Option, Some, None, List, [], ◌∷◌, ◌++◌, map, length, if◌then◌else◌}
use Rattle.c_types.specs.Trees.{Ctype}
use Rattle.c_types.specs.Layout.{Extent, Look, member_extent}
use Rattle.c_types.specs.Table.{type_of, members_in, look_in, extent_in}
use Rattle.core_tree.specs.declared.node.Unit.{Unit}
use Rattle.c_inits.specs.Made.{Part}
use Rattle.c_inits.specs.Tables.{tag_parts, parts_in}
use Rattle.c_senses.specs.World.{World}
use Rattle.c_senses.specs.Tags.{types_of_parts}
use Rattle.core_nodes.specs.Standing.{core_at}

-- one tag's members, and the others' as they were
abbrev pub with_members : (ℕ → Option (List Part)) → ℕ → List Part → ℕ → Option (List Part)
with_members members tag parts t = if tag == t then Some parts else members t

-- what its members take, over what types took before
abbrev pub with_extents : Look → ℕ → List Part → Look
with_extents look tag parts t = if tag == t then Some (map (member_extent look) (types_of_parts parts)) else look t

-- a world with one complete tag more
abbrev pub with_tag : World → ℕ → List Part → World
with_tag w tag parts = record w { members = with_members w.members tag parts; look = with_extents w.look tag parts }

-- The tag is completed with these members. Nodes, types, entities and the other tags stay.
pub record Completes (old new : Unit) (tag : ℕ) (parts : List Part) : Type 0 where
  pub nodes : length new.nodes.items ≡ length old.nodes.items
  pub cores : (i : ℕ) → core_at new i ≡ core_at old i
  pub terms : length new.types.terms ≡ length old.types.terms
  pub types : (id : ℕ) → type_of new.types id ≡ type_of old.types id
  pub tags : new.types.tags ≡ old.types.tags
  pub entities : new.entities.items ≡ old.entities.items
  pub was_open : members_in old.types tag ≡ None
  pub parts_are : (t : ℕ)
      → parts_in new.types (members_in new.types t)
      ≡ with_members (λ k. parts_in old.types (members_in old.types k)) tag parts t
  pub look : (t : ℕ) → look_in new.types t ≡ with_extents (look_in old.types) tag parts t
  pub kept : (t : Ctype) (e : Extent) → extent_in old.types t ≡ Some e → extent_in new.types t ≡ Some e
  pub completed : map (tag_parts new.types) new.types.completed
      ≡ map (tag_parts old.types) old.types.completed ++ record { tag = tag; members = parts } ∷ []
