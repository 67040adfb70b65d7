use Rattle.std.proofs.Common.{◌≡◌, ◌+◌, map, take}
use Rattle.link_merge.proofs.kids.type_nodes.Given as goal

abbrev pub invariant-loop-start : goal.invariant-loop-start
invariant-loop-start l = l.list.items ≡ map (λ s. l.count + s) (take l.start-index l.type_starts)
