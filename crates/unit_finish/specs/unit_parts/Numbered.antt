-- The nodes that stay, in order, and their new numbers.
use Rattle.std.specs.Prelude.{ℕ, suc, Bool, true, false, List, [], ◌∷◌, map, get_or, Option, Some, None, unwrap_or}
use Rattle.core_tree.specs.declared.node.Node.{Node}

-- the new number of each node: the marked ones count from a number on, the others have none
abbrev pub numbered_from : ℕ → List Bool → List (Option ℕ)
numbered_from k [] = []
numbered_from k (true ∷ marks) = Some k ∷ numbered_from (suc k) marks
numbered_from k (false ∷ marks) = None ∷ numbered_from k marks

-- the new number of one node, and 0 where it has none
abbrev pub new_number : List (Option ℕ) → ℕ → ℕ
new_number numbers node = unwrap_or (get_or numbers node None) 0

-- a node over the new numbers of its children
abbrev pub moved : List (Option ℕ) → Node → Node
moved numbers node = record node { children = map (new_number numbers) node.children }

-- the nodes that have a new number, in order
abbrev pub staying : List Node → List (Option ℕ) → List Node
staying [] numbers = []
staying (x ∷ nodes) [] = []
staying (x ∷ nodes) (None ∷ numbers) = staying nodes numbers
staying (x ∷ nodes) (Some k ∷ numbers) = x ∷ staying nodes numbers

abbrev pub kept_of : List Node → List (Option ℕ) → List Node
kept_of nodes numbers = map (moved numbers) (staying nodes numbers)
