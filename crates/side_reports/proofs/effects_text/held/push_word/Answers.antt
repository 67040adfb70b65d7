use Rattle.std.proofs.Common.{◌≡◌, ◌*◌, ◌++◌, ℕ, true, false, Vec, Global, sym, ◌∙◌, ap, arith, append-nil, subst}
use Rattle.std.specs.List.{filter, range_with_len}
use Rattle.sol_model.specs.Families.{members}
use Rattle.side_reports.proofs.effects_text.Listing.{bit_next}
use Rattle.side_reports.proofs.effects_text.held.push_word.Goals as goal
use Rattle.side_reports.proofs.effects_text.held.push_word.Goals.{then-has+in_ok-push, else-has}

pub loop-i-preserved : goal.loop-i-preserved
loop-i-preserved c =
    let p = members c.args.rows.now c.args.row in
    elim c.if-has.branch [
      | then-has+in_ok-push w ↦ bit_next p (64 * c.args.number) c.loop-i.i c.args.held.now.items c.loop-i.held.items _ true c.loop-i.invariant (sym c.has.ensures ∙ w.if-has.true) (ap (λ (v : Vec ℕ Global). v.items) w.held-is ∙ w.in_ok-push.ensures.items)
      | else-has w ↦ bit_next p (64 * c.args.number) c.loop-i.i c.args.held.now.items c.loop-i.held.items _ false c.loop-i.invariant (sym c.has.ensures ∙ w.if-has.false) (ap (λ (v : Vec ℕ Global). v.items) w.held-is ∙ sym (append-nil c.loop-i.held.items))
    ]

pub returns : goal.returns
returns c =
    let past = c.loop-i-test.false in
    let up = c.loop-i.auto.i-end in
    let all : c.loop-i.i ≡ 64 = omega arith in
    subst (λ n. c.loop-i.held.items ≡ c.args.held.now.items ++ filter (members c.args.rows.now c.args.row) (range_with_len (64 * c.args.number) n)) all c.loop-i.invariant
