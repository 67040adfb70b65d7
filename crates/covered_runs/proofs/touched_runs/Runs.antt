-- What a linked program's functions may touch covers each of its runs.
use Rattle.std.proofs.Common.{◌∙◌, ℕ, List, length, slice_get, sym, ap}
use Rattle.c_types.specs.declared.key.ObjectKey.{ObjectKey}
use Rattle.core_tree.specs.declared.node.Program.{Program}
use Rattle.core_tree.specs.Valid.{ValidProgram}
use Rattle.sol_model.specs.declared.system.System.{System}
use Rattle.sol_model.specs.Families.{Family, members}
use Rattle.sol_model.specs.Targets.{IsGraphEdge}
use Rattle.obj_space.specs.Space.{locations_in}
use Rattle.obj_space.specs.View.{view_of}
use Rattle.normal_form.specs.SystemOf.{setting_of}
use Rattle.mod_ref.specs.declared.access.Access.{Access}
use Rattle.mod_ref.specs.declared.access.Access.TheVariants.{Read, Write}
use Rattle.mod_ref.specs.declared.effect_rows.Effects.{Effects}
use Rattle.mod_ref.specs.Direct.{Touches}
use Rattle.mod_ref.specs.Touch.{IsClosedTouch, AreEffects}
use Rattle.ref_state.specs.ref_types.Types.{id, types_with}
use Rattle.ref_machine.specs.Run.{run}
use Rattle.covering_laws.specs.covered_state.World.{sets_of}
use Rattle.covered_runs.specs.machine_sound.covered_start.Objects.{IsSolved}
use Rattle.covered_runs.specs.machine_sound.covered_start.Start.{machine_world}
use Rattle.covered_runs.specs.covered_steps.covered_statements.Runnable.{IsRunnable}
use Rattle.covered_runs.proofs.covered_programs.Programs.{scene}
use Rattle.covered_runs.proofs.touched_runs.called_frames.Runs.{runs_layered}
use Rattle.covered_runs.specs.touched_runs.Touched.{IsTouchOf, IsTouchedBy}
use Rattle.covered_runs.specs.touched_runs.Runs.{rows_for, IsInRow, TouchCoversRuns, CellsHaveSpots}
use Rattle.covered_runs.proofs.touched_runs.Spots.{cell_spot}
use Rattle.covered_runs.proofs.touched_runs.Frames.{steps_touch}
use Rattle.covered_runs.proofs.touched_runs.Grown.{functions_one, are_numbered, touches_same}

module _ (p : Program) (system : System) (family : Family) (valid : ValidProgram p) (s : IsSolved p system family) (runs : IsRunnable (machine_world p system family s)) (made : Effects) (effects : AreEffects p (view_of (locations_in p)) system family made) where
  closed_own : (access : Access) → IsClosedTouch (Touches (setting_of p (view_of (locations_in p)) effects.owners) system family access) (IsGraphEdge system family) (members (rows_for access made))
  closed_own Read = effects.reads.least.closed
  closed_own Write = effects.writes.least.closed

  closed_grown : (access : Access) → IsTouchOf (machine_world p system family s) access (members (rows_for access made))
  closed_grown access = record {
    direct = λ f l touches. (closed_own access).direct f l (touches_same p system family valid s runs effects.owners effects.around access f l touches);
    called = (closed_own access).called;
  }

  in_row : (access : Access) (key : ObjectKey) (l : ℕ) → IsTouchedBy (machine_world p system family s) (members (rows_for access made)) key l → IsInRow p (rows_for access made) key l
  in_row access key l h =
      record { number = h.number; function = ap (λ (list : List ObjectKey). slice_get list h.number) (sym (functions_one p system family valid s runs)) ∙ h.function; has = h.has }

pub touch_covers_runs : TouchCoversRuns
unfolding types_with
touch_covers_runs units p system family made words n access key path location f analysed effects accesses lands has =
    let r = runs_layered p system family (scene units p system family analysed) in
    in_row p system family analysed.valid r.0 r.1.runs made effects access f.function location
    (steps_touch (machine_world p system family r.0) (id (length p.types.terms)) access (members (rows_for access made)) (run p words n) key path location f r.1
    (are_numbered p system family analysed.valid r.0 r.1.runs) (closed_grown p system family analysed.valid r.0 r.1.runs made effects access) (r.2 words n) accesses lands has)

pub cells_have_spots : CellsHaveSpots
unfolding types_with
cells_have_spots units p system family words n i key path analysed c =
    let r = runs_layered p system family (scene units p system family analysed) in
    cell_spot (sets_of (machine_world p system family r.0)) system r.1.runs.stands.grounds (run p words n).memory (r.2 words n).carried.steady.covered.memory i key path c
