-- The node above each node, as the code keeps it and finds it.
use Rattle.std.specs.Prelude.{◌≡◌, ℕ, ◌^◌, ◌<◌, nat_lt, ◌&&◌, if◌then◌else◌, List, Option, Some, None, map, length}
use Rattle.std.specs.List.{range_with_len}
use Rattle.core_tree.specs.declared.node.Node.{Node}
use Rattle.ref_blocks.specs.Ways.{parent_of, is_child}

-- the node above each node
pub record AreParents (nodes : List Node) (parents : List (Option ℕ)) : Type 0 where
  pub list : parents ≡ map (parent_of nodes) (range_with_len 0 (length nodes))
  pub count : length nodes < 2 ^ 32

-- what is known to be above a node, once the children of node p are looked at too
abbrev pub noted : ℕ → List ℕ → ℕ → Option ℕ → Option ℕ
noted p children n (Some q) = Some q
noted p children n None = if nat_lt n p && is_child n children then Some p else None
