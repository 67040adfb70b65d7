-- The least sets are accepted on each state of each run.
use Rattle.std.proofs.Common.{◌≡◌, ℕ, List, sym, subst}
use Rattle.ref_state.specs.declared.state.State.{State}
use Rattle.ref_state.specs.ref_types.Types.{types_with}
use Rattle.ref_machine.specs.Run.{run}
use Rattle.covering_laws.specs.covered_state.State.{Covered}
use Rattle.covered_runs.specs.covered_programs.passed.machine_sound.covered_start.Start.{machine_world}
use Rattle.covered_runs.proofs.covered_programs.Programs.{programs_covered}
use Rattle.machine_covers.specs.Runs.{RunsAccepted}
use Rattle.machine_covers.proofs.Covers.{covered_is_covered}
use Rattle.machine_covers.proofs.Whole.{state_exact}

pub runs_accepted : RunsAccepted
unfolding types_with
runs_accepted units p system family machine analysed is words n state =
    let runs = programs_covered units p system family analysed in
    let world = machine_world p system family runs.0 in
    let covered : Covered world machine.state = subst (Covered world) (sym state) (runs.1 words n) in
    (state_exact world machine.state is.prepared.range analysed.system_valid is.known).1 (covered_is_covered world machine.state covered)
