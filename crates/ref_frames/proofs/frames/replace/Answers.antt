use Rattle.std.proofs.Common.{rules, arith, ◌≡◌, ℕ, ◌-◌, ◌<◌, List, length, reverse, slice_set, ap, ◌∙◌}
use Rattle.std.proofs.lemmas.List.{length-reverse}
use Rattle.ref_state.specs.declared.frames.Frame.{Frame}
use Rattle.ref_state.proofs.Reversed.{reverse_set}
use Rattle.ref_frames.proofs.frames.replace.Goals as goal

pub returns-clause-new : goal.returns-clause-new
returns-clause-new c =
    let xs = c.frames.inside.list.items in
    let view : reverse xs ≡ c.args.frames.now = c.frames.view_is in
    let count : c.len.result ≡ length xs = search rules in
    let within : c.args.k < length xs = omega (arith, c.requires, ap length view, length-reverse xs) in
    ap (λ (m : ℕ). reverse (slice_set xs (m - 1 - c.args.k) c.replace.new.dest)) count
    ∙ (ap (λ (y : Frame). reverse (slice_set xs (length xs - 1 - c.args.k) y)) c.replace.ensures.after
    ∙ (reverse_set xs c.args.k c.args.frame within
    ∙ ap (λ (ys : List Frame). slice_set ys c.args.k c.args.frame) view))
