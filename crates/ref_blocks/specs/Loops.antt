-- The parts of a For, and what is left to a statement of which one child is being done.
use Rattle.std.specs.Prelude.{ℕ, ◌-◌, ◌==◌, Bool, true, false, if◌then◌else◌, List, [], ◌∷◌, length, take, drop}
use Rattle.std.specs.List.{slice_range}
use Rattle.core_tree.specs.declared.node.NodeKind.{NodeKind}
use Rattle.core_tree.specs.declared.node.NodeKind.TheVariants.{Block, While, DoWhile, For}

abbrev pub one_if : Bool → ℕ
one_if true = 1
one_if false = 0

-- The children of a For are its first statements, its condition if it has one, what it does after each turn if it does
-- something, and its body. So from the end on they begin here.

abbrev pub body_at : List ℕ → ℕ
body_at children = length children - 1

abbrev pub after_at : Bool → List ℕ → ℕ
after_at after children = body_at children - one_if after

abbrev pub condition_at : Bool → Bool → List ℕ → ℕ
condition_at condition after children = after_at after children - one_if condition

-- the first statements of a For
abbrev pub first_of : Bool → Bool → List ℕ → List ℕ
first_of condition after children = take (condition_at condition after children) children

-- its condition
abbrev pub condition_of : Bool → Bool → List ℕ → List ℕ
condition_of condition after children =
    slice_range children (condition_at condition after children) (after_at after children)

-- what it does after each turn
abbrev pub after_of : Bool → List ℕ → List ℕ
after_of after children = slice_range children (after_at after children) (body_at children)

-- its body
abbrev pub body_of : List ℕ → List ℕ
body_of children = drop (body_at children) children

-- the children after one of them
abbrev pub behind : ℕ → List ℕ → List ℕ
behind n [] = []
behind n (c ∷ rest) = if c == n then rest else behind n rest

-- what is left to a statement of which a child is being done by a jump
abbrev pub left_behind : NodeKind → List ℕ → ℕ → List ℕ
left_behind (Block entities) children n = behind n children
left_behind DoWhile (s ∷ c ∷ []) n = c ∷ []
left_behind (For entities condition after) children n = after_of after children
left_behind kind children n = []

abbrev pub either : List ℕ → List ℕ → List ℕ
either [] other = other
either (c ∷ rest) other = c ∷ rest

-- what is left to a loop that goes on with its next turn
abbrev pub left_next : NodeKind → List ℕ → List ℕ
left_next While (c ∷ s ∷ []) = c ∷ []
left_next DoWhile (s ∷ c ∷ []) = c ∷ []
left_next (For entities condition after) children =
    either (after_of after children) (condition_of condition after children)
left_next kind children = []
