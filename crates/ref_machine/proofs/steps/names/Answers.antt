-- The top frame is taken out, its item is settled, and it is put back.
use Rattle.std.proofs.Common.{false, [], List, refl, ap}
use Rattle.ref_cells.specs.declared.cells.Cell.TheVariants.{Pointer}
use Rattle.ref_mem.specs.Reads.{one_cell}
use Rattle.ref_elements.specs.Outcomes.{gives}
use Rattle.ref_state.specs.declared.frames.Frame.{Frame}
use Rattle.ref_state.specs.declared.items.Item.{Item}
use Rattle.ref_statements.specs.Rows.{computes}
use Rattle.ref_machine.proofs.FirstInstances.{place_settled}
use Rattle.ref_machine.proofs.TopFrame.{row_placed, state_same}
use Rattle.ref_machine.proofs.steps.names.Goals as goal

pub returns-in-Ok-clause-row : goal.returns-in-Ok-clause-row
returns-in-Ok-clause-row c =
    λ f rest e.
    let st = c.args.state.now in
    let frame = c.replace-frame.result in
    let g : Frame = record frame { items = c.settle-done.new.self } in
    row_placed st c.replace-frame.new.frames c.replace-none.new.frames c.no_frame.result g frame
    c.replace-frame.ensures.old c.replace-frame.ensures.new c.replace-none.ensures.new
    st.memory [] c.none.result (λ (y : Frame). computes y c.args.n (gives st.memory (one_cell (Pointer c.args.i [] false)))) f rest e
    (place_settled st.memory frame c.args.n c.args.i c.settle-done.new.self c.in_ok-value.value c.in-Ok.ensures.ok c.in_ok-value.ensures)
    c.none.ensures

pub returns-clause-err : goal.returns-clause-err
returns-clause-err c =
    let frame = c.replace-frame.result in
    let g : Frame = record frame { items = c.settle-done.new.self } in
    state_same c.args.state.now c.replace-frame.new.frames c.replace-none.new.frames c.no_frame.result g frame
    c.replace-frame.ensures.old c.replace-frame.ensures.new c.replace-none.ensures.new
    c.args.state.now.memory (refl, ap (λ (items : List Item). let y : Frame = record frame { items = items } in y) c.in-Err.ensures.err)
