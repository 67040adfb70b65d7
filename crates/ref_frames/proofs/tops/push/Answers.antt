use Rattle.std.proofs.Common.{List, slice_set, ap, ◌∙◌}
use Rattle.ref_state.specs.declared.items.Item.{Item}
use Rattle.ref_state.specs.declared.frames.Frame.{Frame}
use Rattle.std.proofs.Common.{◌∷◌}
use Rattle.ref_frames.proofs.ChangedFrames.{set_twice, set_back, on_ok, on_err}
use Rattle.ref_frames.proofs.tops.push.Goals as goal

pub returns-clause-ok : goal.returns-clause-ok
returns-clause-ok c =
    on_ok c.push-pushed.result
    (λ e.
    c.replace-none.ensures.new
    ∙ (ap (λ (fs : List Frame). slice_set fs 0 (record c.replace-frame.result { items = c.push-pushed.new.self })) c.replace-frame.ensures.new
    ∙ (ap (λ (xs : List Item). slice_set (slice_set c.args.frames.now 0 c.no_frame.result) 0 (record c.replace-frame.result { items = xs })) e
    ∙ set_twice (λ (items : List Item). c.args.item ∷ items) 0 c.args.frames.now c.replace-frame.result c.no_frame.result c.replace-frame.ensures.old)))
    c.push-pushed.ensures.ok

pub returns-clause-err : goal.returns-clause-err
returns-clause-err c =
    on_err c.push-pushed.result
    (λ e.
    c.replace-none.ensures.new
    ∙ (ap (λ (fs : List Frame). slice_set fs 0 (record c.replace-frame.result { items = c.push-pushed.new.self })) c.replace-frame.ensures.new
    ∙ (ap (λ (xs : List Item). slice_set (slice_set c.args.frames.now 0 c.no_frame.result) 0 (record c.replace-frame.result { items = xs })) e
    ∙ set_back 0 c.args.frames.now c.replace-frame.result c.no_frame.result c.replace-frame.ensures.old)))
    c.push-pushed.ensures.err
