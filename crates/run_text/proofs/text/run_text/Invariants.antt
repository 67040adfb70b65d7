use Rattle.std.proofs.Common.{◌≡◌, ◌-◌}
use Rattle.ref_machine.specs.Machines.{IsMachineOf}
use Rattle.run_text.specs.RunText.{before, told_from, run_told}
use Rattle.run_text.proofs.text.run_text.Given as goal

-- the machine is the program's, and what is told so far stands before what is told of the steps that are left
abbrev pub invariant-loop : goal.invariant-loop
invariant-loop l =
    IsMachineOf l.program l.machine
    × (before l.text.items (told_from l.program l.steps (l.steps - l.counter) l.machine.state l.left) ≡ run_told l.program l.fn.words l.steps)
