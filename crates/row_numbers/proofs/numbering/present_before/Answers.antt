use Rattle.std.proofs.Common.{arith, refl, ap, ◌≡◌, ◌∙◌, Bool, cond, None, get_or}
use Rattle.std.specs.Option.{is_some}
use Rattle.row_numbers.specs.Numbering.{present_before}
use Rattle.row_numbers.proofs.NumberingLemmas.{map_more, present_more, one_at_most}
use Rattle.row_numbers.proofs.numbering.present_before.Goals as goal

pub loop-found-preserved : goal.loop-found-preserved
loop-found-preserved c =
    let found = get_or c.args.at.now c.loop-found.found-index None in
    let more = present_more c.args.at.now c.loop-found.found-index None c.loop-found-test.true in
    let one : c.one_if-count.result ≡ cond (is_some found) 1 0 = c.one_if-count.ensures ∙ ap (λ (b : Bool). cond b 1 0) c.is_some.ensures in
    let most = one_at_most found in (
      omega (arith, c.loop-found.invariant.0, one, more),
      omega (arith, c.loop-found.invariant.1, one, most),
      c.in_ok-push.ensures.items ∙ (rw c.loop-found.invariant.2 (rw (map_more (present_before c.args.at.now) c.loop-found.found-index c.loop-found.count c.loop-found.invariant.0) refl)),
    )
