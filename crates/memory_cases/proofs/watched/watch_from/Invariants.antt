use Rattle.std.proofs.Common.{◌≤◌}
use Rattle.ref_machine.specs.Machines.{IsMachineOf}
use Rattle.memory_cases.proofs.watched.watch_from.Given as goal

-- the machine is the program's, and no more states were covered than there were
abbrev pub invariant-loop-at : goal.invariant-loop-at
invariant-loop-at l = IsMachineOf l.made.program l.machine × (l.covered ≤ l.at)
