-- The members of the nodes that stand before one in a list, by their names.
use Rattle.std.specs.Prelude.{ℕ, ◌≡◌, ◌<◌, ◌≤◌, Bool, true, ◌&&◌, ◌||◌, Option, Some, None, List, [], ◌∷◌, length}
use Rattle.std.specs.Prelude.{take, nat_lt, All}
use Rattle.core_tree.specs.declared.node.Unit.{Unit}
use Rattle.c_inits.specs.Made.{Part}
use Rattle.c_senses.specs.Tree.{Source, all_where, children_at}
use Rattle.c_senses.specs.World.{World}
use Rattle.c_senses.specs.Sense.{Sense, sense_in}
use Rattle.c_senses.specs.Tags.{members_among, has_part_named, is_before}
use Rattle.c_results.specs.declared.made.Made.{Made}
use Rattle.c_results.specs.Standing.{senses_made}
use Rattle.c_structures.specs.declared.before.Cursor.{Cursor}
use Rattle.c_structures.specs.declared.before.MembersBefore.{MembersBefore}
use Rattle.c_structures.specs.Named.{SaysNames, is_among}

-- each number is above the one before
abbrev pub ascends : List ℕ → Bool
ascends [] = true
ascends (x ∷ []) = true
ascends (x ∷ y ∷ rest) = nat_lt x y && ascends (y ∷ rest)

-- a cursor has the names of the members of the first so many nodes of a list, all of which have been made
pub record Covers (results : List Made) (nodes : List ℕ) (c : Cursor) : Type 0 where
  pub within : c.done ≤ length nodes
  pub made : All (λ n. n < length results) (take c.done nodes)
  pub names : (u : Unit) (w : World) (s : Source)
      → SaysNames c.names (members_among w s (sense_in (senses_made u results)) (take c.done nodes))

-- both together have the names of some members
pub record SaysEarlier (b : MembersBefore) (parts : List Part) : Type 0 where
  pub named : (w : World) (s : Source) (sense : ℕ → Sense) (name : List ℕ)
      → (is_among b.whole.names.names name || is_among b.part.names.names name)
      ≡ has_part_named w s sense name parts
  pub any_are : (b.whole.names.any || b.part.names.any) ≡ nat_lt 0 (length parts)

module _ (w : World) (s : Source) (sense : ℕ → Sense) where
  -- the members of those nodes of a list, and of those children of a node, that are below a number
  abbrev pub parts_below : List ℕ → ℕ → List Part
  parts_below nodes below = members_among w s sense (all_where (is_before w s sense below) nodes)

  abbrev pub parts_before : Option ℕ → ℕ → List Part
  parts_before None below = []
  parts_before (Some list) below = parts_below (children_at s list) below
