use Rattle.std.proofs.Common.{ap, sym, ◌∙◌}
use Rattle.ref_frames.specs.Running.{Running}
use Rattle.ref_machine.specs.Types.{running}
use Rattle.ref_machine.specs.Step.{item_chooses, outside_chooses}
use Rattle.ref_machine.proofs.Stepped.{top_chooses, none_chooses}
use Rattle.ref_machine.proofs.machine.Machine.chooses.Goals as goal

pub returns-in-Some : goal.returns-in-Some
returns-in-Some c =
    let st = c.args.self.now.state in
    c.item_chooses.ensures
    ∙ (ap (λ (w : Running). item_chooses w.trees c.in-Some.frame.now.items) c.running-running.ensures.seen
    ∙ top_chooses (running c.args.program.now) st.status st.frames c.in-Some.frame.now (sym c.in-Some.ensures))

pub returns-in-None : goal.returns-in-None
returns-in-None c =
    let st = c.args.self.now.state in
    c.outside_chooses.ensures
    ∙ (ap (λ (w : Running). outside_chooses w st.status) c.running-running.ensures.seen
    ∙ none_chooses (running c.args.program.now) st.status st.frames (sym c.in-None.ensures))
