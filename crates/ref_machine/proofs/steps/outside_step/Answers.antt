use Rattle.std.proofs.Common.{rules, ℤ, Option, ap, sym, subst, to_z-of_z, FitsSigned, w32, ◌∙◌}
use Rattle.ref_state.specs.declared.notes.Notes.{Notes}
use Rattle.ref_frames.specs.Made.{seen}
use Rattle.ref_calls.specs.Ending.{end_step, last_of}
use Rattle.ref_calls.specs.Outcomes.{Goes, Steps, outcome}
use Rattle.ref_machine.specs.Step.{outside_step}
use Rattle.ref_machine.proofs.Stepped.{no_status}
use Rattle.ref_machine.proofs.steps.outside_step.Goals as goal

pub returns-in-Some-clause-step : goal.returns-in-Some-clause-step
returns-in-Some-clause-step c =
    let st = c.args.state.now in
    let w = seen c.args.running.now in
    let fits : FitsSigned w32 c.in-Some.status = search rules in
    subst (λ (o : Option ℤ). Steps c.end_step.result st c.end_step.new.state (outside_step w st o c.args.word)) (sym c.in-Some.is)
    (subst (λ (s : ℤ). Steps c.end_step.result st c.end_step.new.state (end_step w st s (last_of st.kept))) (to_z-of_z fits) c.end_step.ensures)

pub returns-in-Ok-clause-step : goal.returns-in-Ok-clause-step
returns-in-Ok-clause-step c =
    let st = c.args.state.now in
    ap (λ (o : Option ℤ). outside_step (seen c.args.running.now) st o c.args.word) (no_status st.status c.in_default.not-Some)
    ∙ (ap (outcome 0) c.in-Ok.ensures.row ∙ ap (λ (m : Notes). Goes (record c.starts.new.state { notes = m })) (sym c.of.ensures))
