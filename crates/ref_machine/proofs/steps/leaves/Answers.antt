use Rattle.std.proofs.Common.{[], ap, sym, ◌∙◌}
use Rattle.ref_state.specs.declared.notes.Notes.{Notes}
use Rattle.ref_state.specs.declared.state.State.{State}
use Rattle.ref_frames.specs.OnTop.{only}
use Rattle.ref_calls.specs.Outcomes.{Goes}
use Rattle.ref_machine.proofs.steps.leaves.Goals as goal

pub returns : goal.returns
returns c =
    λ f rest e.
    ap (λ (s : State). Goes (record s { notes = only [] })) (sym (c.in_ok-leave.ensures.ok f rest e))
    ∙ ap (λ (m : Notes). Goes (record c.leave.new.state { notes = m })) (sym c.none.ensures)
