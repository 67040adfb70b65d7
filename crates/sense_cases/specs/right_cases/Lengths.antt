-- The unit `extern int a[3];int a[]={1,2};`.
use Rattle.std.specs.Prelude.{◌≡◌, ℕ, pos, List, [], ◌∷◌, Some, None, true, codes}
use Rattle.c_types.specs.declared.term.PathStep.TheVariants.{Index}
use Rattle.c_types.specs.declared.term.Term.TheVariants.{Void, Integer, Array}
use Rattle.c_types.specs.Table.{Table}
use Rattle.core_tree.specs.declared.node.NodeKind.TheVariants.{Number, Initialise}
use Rattle.core_tree.specs.declared.node.Node.{Node}
use Rattle.core_tree.specs.declared.node.Entity.{Entity}
use Rattle.core_tree.specs.declared.node.Storage.TheVariants.{Static, Declared}
use Rattle.c_senses.specs.Right.{Right}
use Rattle.sense_cases.specs.Branches.{source}
use Rattle.sense_cases.specs.NameTexts as text
use Rattle.sense_cases.specs.right_cases.Units.{id, node, external, Vectors, unit}

-- types: int, three of it, and void
abbrev pub types : Table
types = record { terms = Integer 4 4 true ∷ Array (id 0) (Some 3) ∷ Void ∷ []; tags = 0; completed = [] }

-- 1, 2 and the initialiser of the second declaration's object
abbrev pub nodes : List Node
nodes =
    node (Number (pos 1)) 14 0 []
    ∷ node (Number (pos 2)) 16 0 []
    ∷ node (Initialise 1 ((Index 0 ∷ []) ∷ (Index 1 ∷ []) ∷ [])) 13 2 (0 ∷ 1 ∷ [])
    ∷ []

-- each declaration has its entity, and both have the length that the first one gives
abbrev pub first : Entity
first = external (codes "a") 3 1 Declared None None

abbrev pub second : Entity
second = external (codes "a") 9 1 Static (Some 2) None

abbrev pub entities : List Entity
entities = first ∷ second ∷ []

-- each unit with these parts is right for the tree, whatever memory its vectors have
pub record HasParts (v : Vectors) : Type 0 where
  pub keys : v.keys.items ≡ []
  pub nodes_are : v.nodes.items ≡ nodes
  pub entities_are : v.entities.items ≡ entities

abbrev pub LengthsRight : Type 0
LengthsRight =
    (called : List ℕ) (v : Vectors)
    → HasParts v
    → Right (source text.seen_before_values) called (unit called types v)
