use Rattle.std.proofs.Common.{Result, List, ap, sym, subst, ◌∙◌}
use Rattle.core_tree.specs.Seen.{core_of}
use Rattle.ref_cells.specs.Answers.{Gives}
use Rattle.ref_cells.specs.declared.cells.Reason.{Reason}
use Rattle.ref_state.specs.declared.frames.Frame.{Frame}
use Rattle.ref_state.specs.declared.state.State.{State}
use Rattle.ref_state.specs.Items.{top_left, top_values}
use Rattle.ref_frames.specs.Made.{seen}
use Rattle.ref_machine.specs.Step.{top_items, calls, takes}
use Rattle.ref_machine.proofs.TopFrame.{calls_within, waits_ready, waits_next, waits_on}
use Rattle.ref_machine.proofs.steps.waited.Goals as goal

pub call_row-requires-clause-node : goal.call_row-requires-clause-node
call_row-requires-clause-node c =
    calls_within (core_of c.args.running.now.trees) c.args.n (top_left (top_items c.args.state.now.frames)) (sym c.requires.ready ∙ c.if-is_ready.true)

pub returns-then-is_ready-clause-row : goal.returns-then-is_ready-clause-row
returns-then-is_ready-clause-row c =
    λ f rest e.
    let w = seen c.args.running.now in
    let st = c.args.state.now in
    let P : Result State Reason → Type 0 = λ r. Gives (λ notes. record c.call_row.new.state { notes = notes }) c.call_row.result r in
    subst P
    (sym (waits_ready w st f rest c.args.n (top_left f.items) (top_values f.items) c.args.word
    (ap (λ (fs : List Frame). calls w.trees c.args.n (top_left (top_items fs))) (sym e) ∙ (sym c.requires.ready ∙ c.if-is_ready.true))))
    (c.call_row.ensures.row f rest e)

pub returns-then-is_next-clause-row : goal.returns-then-is_next-clause-row
returns-then-is_next-clause-row c =
    λ f rest e.
    let w = seen c.args.running.now in
    let st = c.args.state.now in
    let P : Result State Reason → Type 0 = λ r. Gives (λ notes. record c.next_row.new.state { notes = notes }) c.next_row.result r in
    subst P
    (sym (waits_next w st f rest c.args.n (top_left f.items) (top_values f.items) c.args.word
    (ap (λ (fs : List Frame). calls w.trees c.args.n (top_left (top_items fs))) (sym e) ∙ (sym c.requires.ready ∙ c.if-is_ready.false))
    (ap (λ (fs : List Frame). takes w.trees c.args.n (top_left (top_items fs))) (sym e) ∙ (sym c.requires.next ∙ c.if-is_next.true))))
    (c.next_row.ensures.row f rest e)

pub returns-else-is_next-clause-row : goal.returns-else-is_next-clause-row
returns-else-is_next-clause-row c =
    λ f rest e.
    let w = seen c.args.running.now in
    let st = c.args.state.now in
    let P : Result State Reason → Type 0 = λ r. Gives (λ notes. record c.waits.new.state { notes = notes }) c.waits.result r in
    subst P
    (sym (waits_on w st f rest c.args.n (top_left f.items) (top_values f.items) c.args.word
    (ap (λ (fs : List Frame). calls w.trees c.args.n (top_left (top_items fs))) (sym e) ∙ (sym c.requires.ready ∙ c.if-is_ready.false))
    (ap (λ (fs : List Frame). takes w.trees c.args.n (top_left (top_items fs))) (sym e) ∙ (sym c.requires.next ∙ c.if-is_next.false))))
    (c.waits.ensures.row f rest e)
