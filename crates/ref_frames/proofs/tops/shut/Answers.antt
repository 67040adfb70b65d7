use Rattle.std.proofs.Common.{List, slice_set, ap, ◌∙◌}
use Rattle.ref_state.specs.declared.items.Item.{Item}
use Rattle.ref_state.specs.declared.frames.Frame.{Frame}
use Rattle.ref_state.specs.Items.{below_shut}
use Rattle.ref_frames.proofs.ChangedFrames.{set_twice}
use Rattle.ref_frames.proofs.tops.shut.Goals as goal

pub returns : goal.returns
returns c =
    c.replace-none.ensures.new
    ∙ (ap (λ (fs : List Frame). slice_set fs 0 (record c.replace-frame.result { items = c.shut.new.self })) c.replace-frame.ensures.new
    ∙ (ap (λ (xs : List Item). slice_set (slice_set c.args.frames.now 0 c.no_frame.result) 0 (record c.replace-frame.result { items = xs })) c.shut.ensures
    ∙ set_twice (below_shut) 0 c.args.frames.now c.replace-frame.result c.no_frame.result c.replace-frame.ensures.old))
