-- The nodes above a node, and the parts of statements.
use Rattle.std.specs.Prelude.{ℕ, zero, suc, ◌+◌, ◌-◌, ◌==◌, nat_lt, ◌&&◌, Bool, true, false, if◌then◌else◌, List}
use Rattle.std.specs.Prelude.{[], ◌∷◌, Option, Some, None, length, slice_get}
use Rattle.std.specs.List.{list_any}
use Rattle.core_tree.specs.declared.node.Node.{Node}
use Rattle.ref_blocks.specs.declared.ways.Link.{Link}
use Rattle.ref_blocks.specs.declared.ways.Sought.{Sought}
use Rattle.ref_blocks.specs.declared.ways.Sought.TheVariants.{LoopAlone, SwitchAlone, LoopOrSwitch}
use Rattle.core_tree.specs.declared.node.NodeKind.{NodeKind}
use Rattle.core_tree.specs.declared.node.NodeKind.TheVariants.{Skip, Block, If, While, DoWhile, For, Switch, Case}
use Rattle.core_tree.specs.declared.node.NodeKind.TheVariants.{Default, Label}

abbrev pub is_child : ℕ → List ℕ → Bool
is_child n children = list_any (λ c. c == n) children

-- the node, of those from number i on, of which a node of a smaller number is a child
abbrev pub parent_from : ℕ → ℕ → List Node → Option ℕ
parent_from n i [] = None
parent_from n i (node ∷ rest) =
    if nat_lt n i && is_child n node.children then Some i else parent_from n (i + 1) rest

abbrev pub parent_of : List Node → ℕ → Option ℕ
parent_of nodes n = parent_from n 0 nodes

-- the nodes above a node, the nearest first, each with its child on the way
abbrev pub above_in : List Node → ℕ → ℕ → List Link
above_in nodes zero n = []
above_in nodes (suc fuel) n =
    elim (parent_of nodes n) [ None ↦ [] | Some p ↦ record { node = p; child = n } ∷ above_in nodes fuel p ]

-- each node has a greater number than its children, so no way is longer than the list of nodes
unfoldable pub above : List Node → ℕ → List Link
above nodes n = above_in nodes (length nodes) n

abbrev pub top_of : ℕ → List Link → ℕ
top_of n [] = n
top_of n (link ∷ rest) = top_of link.node rest

-- the topmost node above a node: of a statement the body of its function
abbrev pub root_of : List Node → ℕ → ℕ
root_of nodes n = top_of n (above nodes n)

abbrev pub kind_in : Option Node → NodeKind
kind_in None = Skip
kind_in (Some node) = node.kind

abbrev pub kind_at : List Node → ℕ → NodeKind
kind_at nodes n = kind_in (slice_get nodes n)

abbrev pub children_in : Option Node → List ℕ
children_in None = []
children_in (Some node) = node.children

abbrev pub children_at : List Node → ℕ → List ℕ
children_at nodes n = children_in (slice_get nodes n)

-- a statement that is a block
abbrev pub is_block : NodeKind → Bool
is_block (Block entities) = true
is_block If = true
is_block While = true
is_block DoWhile = true
is_block (For entities condition after) = true
is_block Switch = true
is_block kind = false

-- what stands before a statement and is done as that statement
abbrev pub is_label : NodeKind → Bool
is_label (Case n) = true
is_label Default = true
is_label (Label name) = true
is_label kind = false

abbrev pub is_loop : NodeKind → Bool
is_loop While = true
is_loop DoWhile = true
is_loop (For entities condition after) = true
is_loop kind = false

abbrev pub is_switch : NodeKind → Bool
is_switch Switch = true
is_switch kind = false

abbrev pub child : List ℕ → ℕ → ℕ
child children i = elim (slice_get children i) [ None ↦ 0 | Some c ↦ c ]

abbrev pub last_child : List ℕ → ℕ
last_child children = child children (length children - 1)

-- a child that is a branch of an If, or the body of another statement
abbrev pub is_body : NodeKind → List ℕ → ℕ → Bool
is_body If (c ∷ branches) n = is_child n branches
is_body While (c ∷ s ∷ []) n = s == n
is_body Switch (c ∷ s ∷ []) n = s == n
is_body DoWhile (s ∷ c ∷ []) n = s == n
is_body (For entities condition after) children n = last_child children == n
is_body kind children n = false

-- the nearest node on a way up whose kind is one of these
abbrev pub nearest : List Node → (NodeKind → Bool) → List Link → Option ℕ
nearest nodes is [] = None
nearest nodes is (link ∷ rest) = if is (kind_at nodes link.node) then Some link.node else nearest nodes is rest

abbrev pub is_loop_or_switch : NodeKind → Bool
is_loop_or_switch kind = if is_loop kind then true else is_switch kind

-- whether a kind is one that is sought
abbrev pub is_sought : Sought → NodeKind → Bool
is_sought LoopAlone = is_loop
is_sought SwitchAlone = is_switch
is_sought LoopOrSwitch = is_loop_or_switch
