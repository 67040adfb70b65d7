use Rattle.std.proofs.Common.{Result, sym, subst}
use Rattle.ref_cells.specs.Answers.{Gives}
use Rattle.ref_cells.specs.declared.cells.Reason.{Reason}
use Rattle.ref_state.specs.declared.state.State.{State}
use Rattle.ref_state.specs.Items.{top_values}
use Rattle.ref_frames.specs.Made.{seen}
use Rattle.ref_machine.proofs.TopFrame.{row_calls, row_stops}
use Rattle.ref_machine.proofs.steps.call_row.Goals as goal

pub returns-in-Ok-clause-row : goal.returns-in-Ok-clause-row
returns-in-Ok-clause-row c =
    λ f rest e.
    let P : Result State Reason → Type 0 = λ r. Gives (λ notes. record c.call.new.state { notes = notes }) c.call.result r in
    subst P
    (sym (row_calls (seen c.args.running.now) c.args.state.now f rest c.args.n (top_values f.items) c.in-Ok.target (c.in-Ok.ensures f rest e)))
    (c.call.ensures.row f rest e)

pub returns-in-Err-clause-row : goal.returns-in-Err-clause-row
returns-in-Err-clause-row c =
    λ f rest e.
    row_stops (seen c.args.running.now) c.args.state.now f rest c.args.n (top_values f.items) c.in-Err.fault (c.in-Err.ensures f rest e)
