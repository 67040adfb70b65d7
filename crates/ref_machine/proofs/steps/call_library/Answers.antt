use Rattle.std.proofs.Common.{◌∙◌}
use Rattle.ref_state.specs.declared.items.Item.TheVariants.{Library}
use Rattle.ref_frames.specs.Made.{seen}
use Rattle.ref_machine.proofs.TopFrame.{frames_topped, called_pending}
use Rattle.ref_machine.proofs.steps.call_library.Goals as goal

pub returns : goal.returns
returns c =
    λ f rest e.
    let st = c.args.state.now in
    called_pending (seen c.args.running.now) st f rest c.args.n c.args.k c.args.arguments c.replace_item.new.frames c.target_of.result c.new.result
    (c.replace_item.ensures ∙ frames_topped (Library c.args.n c.args.k c.args.arguments) st.frames f rest e c.requires.items)
    c.target_of.ensures c.new.ensures
