use Rattle.std.proofs.Common.{◌≡◌, ◌+◌, ◌++◌, length, map, take}
use Rattle.link_merge.proofs.spread.begun.Given as goal

abbrev pub invariant-loop-first : goal.invariant-loop-first
invariant-loop-first l = l.list.items ≡ l.leaders ++ map (λ k. length l.leaders + k) (take l.first-index l.firsts)
