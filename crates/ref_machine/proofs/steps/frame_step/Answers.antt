use Rattle.std.proofs.Common.{◌≡◌, None, Some, ap, sym, subst, slice_get, ◌∙◌}
use Rattle.ref_cells.specs.declared.cells.Value.{Value}
use Rattle.ref_state.specs.declared.items.Item.{Item}
use Rattle.ref_state.specs.declared.items.Item.TheVariants.{Library}
use Rattle.ref_state.specs.Items.{top_left, top_values}
use Rattle.ref_frames.specs.Made.{seen}
use Rattle.ref_calls.specs.Library.{library_row}
use Rattle.ref_calls.specs.Outcomes.{Goes, Steps}
use Rattle.ref_statements.specs.Nodes.{do_row}
use Rattle.ref_machine.specs.Step.{placed, waited, leaves}
use Rattle.ref_machine.proofs.Stepped.{split_items, by_end, by_result, by_do, by_wait, by_library, same_item}
use Rattle.ref_machine.proofs.steps.frame_step.Goals as goal

pub returns-in-None : goal.returns-in-None
returns-in-None c =
    λ f rest e.
    let st = c.args.state.now in
    let w = seen c.args.running.now in
    by_end c.leaves.result st c.leaves.new.state w c.args.word f rest
    (same_item st.frames c.in-Some.frame.now f rest None (sym c.in-Some.ensures) e (sym c.in-None.ensures))
    (subst (λ (v : Value). Steps c.leaves.result st c.leaves.new.state (Goes (leaves w st f rest v))) c.none.ensures (c.leaves.ensures f rest e))

pub returns-in_ok-value-in-Some-Result : goal.returns-in_ok-value-in-Some-Result
returns-in_ok-value-in-Some-Result c =
    λ f rest e.
    let st = c.args.state.now in
    let w = seen c.args.running.now in
    let new = c.leaves-in-Some-Result.new.state in
    by_result c.leaves-in-Some-Result.result st new w c.args.word f rest c.in-Some-Result.value
    (same_item st.frames c.in-Some.frame.now f rest _ (sym c.in-Some.ensures) e
    (sym c.in-Some-Result.ensures ∙ ap (λ (x : Item). Some x) c.in-Some-Result.field-0-is))
    (subst (λ (v : Value). Steps c.leaves-in-Some-Result.result st new (Goes (leaves w st f rest v))) c.in_ok-value-in-Some-Result.ensures
    (c.leaves-in-Some-Result.ensures f rest e))

pub returns-in-Some-Do : goal.returns-in-Some-Do
returns-in-Some-Do c =
    λ f rest e.
    let st = c.args.state.now in
    let w = seen c.args.running.now in
    let n = c.in-Some-Do.n in
    by_do c.answers.result st c.answers.new.state w c.args.word f rest n
    (same_item st.frames c.in-Some.frame.now f rest _ (sym c.in-Some.ensures) e
    (sym c.in-Some-Do.ensures ∙ ap (λ (x : Item). Some x) c.in-Some-Do.field-0-is))
    (c.answers.ensures st (placed st rest (do_row w.trees st.memory f n c.args.word)) (c.does-row.ensures.row f rest e) c.does-row.ensures.err)

pub returns-in-Some-Wait : goal.returns-in-Some-Wait
returns-in-Some-Wait c =
    λ f rest e.
    let st = c.args.state.now in
    let w = seen c.args.running.now in
    let n = c.in-Some-Wait.node in
    by_wait c.answers-in-Some-Wait.result st c.answers-in-Some-Wait.new.state w c.args.word f rest n c.in-Some-Wait.left c.in-Some-Wait.field-0-2
    (same_item st.frames c.in-Some.frame.now f rest _ (sym c.in-Some.ensures) e
    (sym c.in-Some-Wait.ensures ∙ ap (λ (x : Item). Some x) c.in-Some-Wait.field-0-is))
    (c.answers-in-Some-Wait.ensures st (waited w st f rest n (top_left f.items) (top_values f.items) c.args.word)
    (c.waited-row.ensures.row f rest e) c.waited-row.ensures.err)

pub returns-in-Some-Library : goal.returns-in-Some-Library
returns-in-Some-Library c =
    λ f rest e.
    let st = c.args.state.now in
    let w = seen c.args.running.now in
    let n = c.in-Some-Library.node in
    let k = c.in-Some-Library.function in
    let values = c.in-Some-Library.field-0-2 in
    let at : slice_get f.items 0 ≡ Some (Library n k values) =
    same_item st.frames c.in-Some.frame.now f rest (Some (Library n k values)) (sym c.in-Some.ensures) e
    (sym c.in-Some-Library.ensures ∙ ap (λ (x : Item). Some x) c.in-Some-Library.field-0-is) in
    let s = split_items f.items (Library n k values) at in
    by_library c.answers-in-Some-Library.result st c.answers-in-Some-Library.new.state w c.args.word f rest n k values at
    (c.answers-in-Some-Library.ensures st (library_row w st f rest n k values c.args.word)
    (c.library_row-row.ensures.row f rest values s.0 e s.1) (c.library_row-row.ensures.err f rest values s.0 e s.1))
