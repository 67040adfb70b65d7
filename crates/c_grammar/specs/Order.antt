-- How the nodes of a tree lie in its list.
use Rattle.std.specs.Prelude.{◌≡◌, ℕ, ◌+◌, ◌<◌, List, [], ◌∷◌, ◌++◌, length}
use Rattle.c_grammar.specs.Reads.{State, Node}

-- all numbers are below a bound
abbrev pub AllBelow : ℕ → List ℕ → Type 0
AllBelow bound [] = Unit {0}
AllBelow bound (n ∷ ns) = (n < bound) × AllBelow bound ns

-- behind so many nodes, each node's children have smaller numbers than the node
abbrev pub ChildrenFirst : ℕ → List Node → Type 0
ChildrenFirst before [] = Unit {0}
ChildrenFirst before (n ∷ nodes) = AllBelow before n.children × ChildrenFirst (before + 1) nodes

-- the list of a state is in order: children come first, also those of the production that is being read
abbrev pub InOrder : State → Type 0
InOrder s = ChildrenFirst 0 s.nodes × AllBelow (length s.nodes) s.children

-- the last node is the production's, at the token where it began, and its children are new nodes
abbrev pub EndsWith : ℕ → ℕ → List Node → List Node → Type 0
EndsWith production place before nodes =
    (more : List Node) × (children : List ℕ)
    × (nodes ≡ before ++ (more ++ (record { production = production; token = place; children = children }) ∷ []))
