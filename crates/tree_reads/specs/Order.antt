-- Lists of children in the order of their numbers.
use Rattle.std.specs.Prelude.{ℕ, ◌≡◌, Bool, true, ◌&&◌, nat_lt, List, [], ◌∷◌, slice_get}
use Rattle.c_grammar.specs.declared.trees.SyntaxNode.{SyntaxNode}
use Rattle.c_senses.specs.Tree.{children_of}

-- each number is above the one before
abbrev pub ascends : List ℕ → Bool
ascends [] = true
ascends (x ∷ []) = true
ascends (x ∷ y ∷ rest) = nat_lt x y && ascends (y ∷ rest)

-- the children of each node ascend
abbrev pub AllAscend : List SyntaxNode → Type 0
AllAscend nodes = (i : ℕ) → ascends (children_of (slice_get nodes i)) ≡ true
