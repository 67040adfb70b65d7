-- One node that leaves a queue at the front and comes back at the end, if it stays.
use Rattle.std.specs.Prelude.{ℕ, ◌≡◌, List, [], ◌∷◌, ◌++◌, get_or, Option, Some, None}
use Rattle.core_tree.specs.declared.node.Node.{Node}
use Rattle.unit_finish.specs.unit_parts.Numbered.{moved}

-- the node that comes back
abbrev pub back : List (Option ℕ) → Option ℕ → Node → List Node
back numbers None x = []
back numbers (Some k) x = moved numbers x ∷ []

pub record Turns (numbers : List (Option ℕ)) (at : ℕ) (old new : List Node) : Type 0 where
  pub node : Node
  pub rest : List Node
  pub before : old ≡ node ∷ rest
  pub after : new ≡ rest ++ back numbers (get_or numbers at None) node

-- one node that leaves at the front and comes back at the end, changed
pub record Comes (change : Node → Node) (old new : List Node) : Type 0 where
  pub node : Node
  pub rest : List Node
  pub before : old ≡ node ∷ rest
  pub after : new ≡ rest ++ change node ∷ []
