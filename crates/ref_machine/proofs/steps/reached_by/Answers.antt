use Rattle.std.proofs.Common.{ℕ, List, ap, sym, subst, ◌∙◌}
use Rattle.core_tree.specs.Seen.{core_of}
use Rattle.ref_cells.specs.Answers.{Gives}
use Rattle.ref_cells.specs.declared.cells.Value.{Value}
use Rattle.ref_state.specs.declared.frames.Frame.{Frame}
use Rattle.ref_state.specs.Items.{top_values}
use Rattle.ref_calls.specs.declared.reached.Target.{Target}
use Rattle.ref_calls.specs.Reached.{reached}
use Rattle.ref_machine.proofs.TopFrame.{top_is}
use Rattle.ref_machine.proofs.steps.reached_by.Goals as goal

pub returns-in-Some : goal.returns-in-Some
returns-in-Some c =
    λ f rest e.
    let same = top_is c.args.state.now.frames c.in-Some.frame.now f rest e (sym c.in-Some.ensures) in
    subst (λ (vs : List (ℕ × Value)). Gives (λ (t : Target). t) c.reached.result (reached (core_of c.args.running.now.trees) c.args.n vs))
    (c.values.ensures ∙ ap (λ (y : Frame). top_values y.items) same) c.reached.ensures
