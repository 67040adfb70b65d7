use Rattle.std.proofs.Common.{ap, sym, ◌∙◌}
use Rattle.core_tree.specs.Seen.{core_of}
use Rattle.ref_state.specs.declared.frames.Frame.{Frame}
use Rattle.ref_state.specs.Items.{top_values}
use Rattle.ref_statements.specs.Nodes.{do_row}
use Rattle.ref_machine.proofs.TopFrame.{items_of_top, row_placed, row_failed, state_same}
use Rattle.ref_machine.proofs.steps.does_row.Goals as goal

pub do_row-done-requires-clause-values : goal.do_row-done-requires-clause-values
do_row-done-requires-clause-values c =
    ap top_values (sym (items_of_top c.args.state.now.frames c.replace-frame.result c.replace-frame.ensures.old)) ∙ c.requires.values

pub returns-in-Ok-clause-row : goal.returns-in-Ok-clause-row
returns-in-Ok-clause-row c =
    λ f rest e.
    let u = core_of c.args.running.now.trees in
    let st = c.args.state.now in
    row_placed st c.replace-frame.new.frames c.replace-none.new.frames c.no_frame.result c.do_row-done.new.frame c.replace-frame.result
    c.replace-frame.ensures.old c.replace-frame.ensures.new c.replace-none.ensures.new
    c.do_row-done.new.memory c.in-Ok.stores c.of.result (λ (y : Frame). do_row u st.memory y c.args.n c.args.word) f rest e
    c.in-Ok.ensures.row c.of.ensures

pub returns-clause-row : goal.returns-clause-row
returns-clause-row c =
    λ f rest e.
    let u = core_of c.args.running.now.trees in
    let st = c.args.state.now in
    row_failed st c.replace-frame.result (λ (y : Frame). do_row u st.memory y c.args.n c.args.word) c.in-Err.fault f rest
    c.replace-frame.ensures.old e c.in-Err.ensures.row

pub returns-clause-err : goal.returns-clause-err
returns-clause-err c =
    state_same c.args.state.now c.replace-frame.new.frames c.replace-none.new.frames c.no_frame.result c.do_row-done.new.frame c.replace-frame.result
    c.replace-frame.ensures.old c.replace-frame.ensures.new c.replace-none.ensures.new
    c.do_row-done.new.memory c.in-Err.ensures.err
