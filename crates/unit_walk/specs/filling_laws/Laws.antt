-- What can be initialised in the world at a node is what the unit's types say, and so at the next node.
use Rattle.std.specs.Prelude.{ℕ, ◌≡◌, ◌++◌, List, [], ◌∷◌, length}
use Rattle.c_types.specs.Made.{IsMade}
use Rattle.core_tree.specs.declared.node.Unit.{Unit}
use Rattle.parsed_tree_laws.specs.sense_laws.Senses.{ChildrenFirst}
use Rattle.c_senses.specs.Tree.{Source}
use Rattle.c_senses.specs.Sense.{Sense, sense_in}
use Rattle.c_senses.specs.Rows.{world_at}
use Rattle.c_initials.specs.Filling.{Fills}
use Rattle.unit_worlds.specs.Growing.{completed_at, Grows}

-- where no structure or union is complete
abbrev pub FillsFirst : Type 0
FillsFirst = (s : Source) (u : Unit) (i : ℕ) → u.types.completed ≡ [] → Fills (world_at s [] i) u

-- with the sense of one node more, where the unit has grown by what that node completes
abbrev pub FillsOn : Type 0
FillsOn =
    (s : Source) → ChildrenFirst s → (senses : List Sense) (x : Sense) (old new : Unit) (i j : ℕ)
    → IsMade old.types → IsMade new.types → Grows old new (completed_at s (sense_in senses) (length senses))
    → Fills (world_at s senses i) old → Fills (world_at s (senses ++ x ∷ []) j) new
