use Rattle.std.proofs.Common.{length}
use Rattle.unit_link.proofs.link_program.Readying.{ReadyTo}
use Rattle.unit_link.proofs.link_program.ready.ready.Given as goal

abbrev pub invariant-loop-id : goal.invariant-loop-id
invariant-loop-id l = ReadyTo l.fn.types l.types l.id
