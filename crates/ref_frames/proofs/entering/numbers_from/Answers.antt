use Rattle.std.proofs.Common.{◌≡◌, ℕ, ◌+◌, List, [], ◌∷◌, ◌++◌, ap, sym, ◌∙◌}
use Rattle.std.specs.List.{range_with_len}
use Rattle.ref_frames.proofs.Arguments.{range_more}
use Rattle.ref_frames.proofs.entering.numbers_from.Goals as goal

pub loop-k-preserved : goal.loop-k-preserved
loop-k-preserved c =
    let number : c.in_ok-number_of.field-0 ≡ c.args.first + c.loop-k.k = c.in_ok-number_of.ensures in
    let same : c.push.new.self ≡ range_with_len c.args.first (c.loop-k.k + 1) =
    c.in_ok-push.ensures.ok
    ∙ (ap (λ (xs : List ℕ). xs ++ c.in_ok-number_of.field-0 ∷ []) c.loop-k.invariant
    ∙ (ap (λ (x : ℕ). range_with_len c.args.first c.loop-k.k ++ x ∷ []) number
    ∙ sym (range_more c.args.first c.loop-k.k))) in
    same
