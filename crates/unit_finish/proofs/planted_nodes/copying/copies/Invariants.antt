use Rattle.std.proofs.Common.{◌≡◌}
use Rattle.unit_finish.specs.planted_nodes.Copied.{copies_to}
use Rattle.unit_finish.proofs.planted_nodes.copying.copies.Given as goal

abbrev pub invariant-loop-number : goal.invariant-loop-number
invariant-loop-number l = l.list.items ≡ copies_to l.nodes l.origins l.starts l.number
