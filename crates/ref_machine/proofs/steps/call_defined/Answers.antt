use Rattle.std.proofs.Common.{List, Some, None, length, ap, sym, ◌∙◌}
use Rattle.ref_cells.specs.declared.instance.Instance.{Instance}
use Rattle.ref_frames.specs.Frames.{entered}
use Rattle.ref_frames.specs.Made.{seen}
use Rattle.ref_machine.proofs.TopFrame.{called_in}
use Rattle.ref_machine.proofs.steps.call_defined.Goals as goal

pub returns-clause-row : goal.returns-clause-row
returns-clause-row c =
    λ f rest e.
    called_in (seen c.args.running.now) c.args.state.now f rest c.args.n c.args.function c.args.arguments.now c.in_ok-made.made
    c.enter.new.memory c.enter.new.frames c.target_of-target.result c.in_ok-stores.stores
    e (ap (λ (m : List Instance). entered (seen c.args.running.now) (length m) (record { function = c.args.function; call = Some c.args.n; by = None }) c.args.arguments.now) (sym c.instances-count.ensures) ∙ c.in_ok-made.ensures) c.in_ok-stores.ensures.memory c.in_ok-stores.ensures.frames c.target_of-target.ensures c.in_ok-stores.ensures.stores
