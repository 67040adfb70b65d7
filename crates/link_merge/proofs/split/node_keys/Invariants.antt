use Rattle.std.proofs.Common.{◌≡◌, Some, map, take}
use Rattle.link_merge.specs.Keys.{keys_of}
use Rattle.link_merge.specs.Parted.{lists_of, list_of, node_key}
use Rattle.link_merge.proofs.split.node_keys.Given as goal

abbrev pub invariant-loop-node : goal.invariant-loop-node
invariant-loop-node l = keys_of l.keys.items ≡ map (λ x. Some (node_key l.class (list_of (lists_of l.kids) x) x)) (take l.node-index l.list)
