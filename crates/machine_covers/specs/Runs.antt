-- That the least sets are accepted on each state of each run.
use Rattle.std.specs.Prelude.{◌≡◌, ℕ, List}
use Rattle.core_tree.specs.declared.node.Program.{Program}
use Rattle.core_tree.specs.declared.node.Unit.{Unit}
use Rattle.sol_model.specs.declared.system.System.{System}
use Rattle.sol_model.specs.Families.{Family}
use Rattle.obj_space.specs.Space.{locations_in}
use Rattle.ref_machine.specs.declared.machine.Machine.{Machine}
use Rattle.ref_machine.specs.Machines.{IsMachineOf}
use Rattle.ref_machine.specs.Run.{run}
use Rattle.covered_runs.specs.covered_programs.Programs.{IsAnalysed}
use Rattle.machine_covers.specs.Decided.{StateBy, sight_over}

-- whatever the words and however many steps, of a program that is linked from units
abbrev pub RunsAccepted : Type 0
RunsAccepted =
    (units : List Unit) (p : Program) (system : System) (family : Family) (machine : Machine)
    → IsAnalysed units p system family
    → IsMachineOf p machine
    → (words : List ℕ) (n : ℕ)
    → machine.state ≡ run p words n
    → StateBy (sight_over p (locations_in p) system family) machine.state
