-- What a unit knows of the world at a node it knows of the world at the next one, and the senses of one node more.
use Rattle.std.specs.Prelude.{ℕ, ◌≡◌, ◌<◌, ◌++◌, List, [], ◌∷◌, length}
use Rattle.core_tree.specs.declared.node.Unit.{Unit}
use Rattle.c_results.specs.passed.core_nodes.Standing.{Knows}
use Rattle.parsed_tree_laws.specs.sense_laws.Senses.{ChildrenFirst}
use Rattle.c_senses.specs.Given.{Fits}
use Rattle.c_senses.specs.Tree.{Source, production_at, children_at}
use Rattle.c_senses.specs.Sense.{Sense, sense_in}
use Rattle.c_senses.specs.Rows.{world_at, row_of, AreSenses}
use Rattle.unit_worlds.specs.Growing.{completed_at, Grows}

-- with the sense of one node more, where the unit has grown by what that node completes
abbrev pub KnownOn : Type 0
KnownOn =
    (s : Source) → ChildrenFirst s → (senses : List Sense) (x : Sense) (old new : Unit) (i j : ℕ)
    → Grows old new (completed_at s (sense_in senses) (length senses))
    → Knows (world_at s senses i) old
    → Knows (world_at s (senses ++ x ∷ []) j) new

-- where the row of the next node fits
abbrev pub SensedOn : Type 0
SensedOn =
    (s : Source) (senses : List Sense) (x : Sense) → AreSenses s senses → length senses < length s.nodes
    → row_of (world_at s senses (length senses)) s (sense_in senses) (production_at s (length senses))
    (length senses) (children_at s (length senses))
    ≡ Fits x
    → AreSenses s (senses ++ x ∷ [])
