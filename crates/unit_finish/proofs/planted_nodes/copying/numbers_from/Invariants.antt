use Rattle.std.proofs.Common.{◌≡◌}
use Rattle.unit_finish.specs.planted_nodes.Copied.{numbers_from}
use Rattle.unit_finish.proofs.planted_nodes.copying.numbers_from.Given as goal

abbrev pub invariant-loop-k : goal.invariant-loop-k
invariant-loop-k l = l.list.items ≡ numbers_from l.total l.start l.k
