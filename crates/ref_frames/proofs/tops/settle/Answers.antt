use Rattle.std.proofs.Common.{List, slice_set, ap, ◌∙◌}
use Rattle.ref_state.specs.declared.items.Item.{Item}
use Rattle.ref_state.specs.declared.frames.Frame.{Frame}
use Rattle.ref_state.specs.Items.{settled}
use Rattle.ref_frames.proofs.ChangedFrames.{set_twice, set_back, on_ok, on_err}
use Rattle.ref_frames.proofs.tops.settle.Goals as goal

pub returns-clause-ok : goal.returns-clause-ok
returns-clause-ok c =
    on_ok c.settle-settled.result
    (λ e.
    c.replace-none.ensures.new
    ∙ (ap (λ (fs : List Frame). slice_set fs c.args.k (record c.replace-frame.result { items = c.settle-settled.new.self })) c.replace-frame.ensures.new
    ∙ (ap (λ (xs : List Item). slice_set (slice_set c.args.frames.now c.args.k c.no_frame.result) c.args.k (record c.replace-frame.result { items = xs })) e
    ∙ set_twice (settled c.args.n c.args.value) c.args.k c.args.frames.now c.replace-frame.result c.no_frame.result c.replace-frame.ensures.old)))
    c.settle-settled.ensures.ok

pub returns-clause-err : goal.returns-clause-err
returns-clause-err c =
    on_err c.settle-settled.result
    (λ e.
    c.replace-none.ensures.new
    ∙ (ap (λ (fs : List Frame). slice_set fs c.args.k (record c.replace-frame.result { items = c.settle-settled.new.self })) c.replace-frame.ensures.new
    ∙ (ap (λ (xs : List Item). slice_set (slice_set c.args.frames.now c.args.k c.no_frame.result) c.args.k (record c.replace-frame.result { items = xs })) e
    ∙ set_back c.args.k c.args.frames.now c.replace-frame.result c.no_frame.result c.replace-frame.ensures.old)))
    c.settle-settled.ensures.err
