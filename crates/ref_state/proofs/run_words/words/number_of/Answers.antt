use Rattle.std.proofs.Common.{arith, ◌≡◌, ℕ, ◌+◌, ◌*◌, ◌-◌, ◌^◌, ◌<◌, ◌≤◌, length, drop, get_or, subst}
use Rattle.ref_state.specs.run_words.Words.{number_from}
use Rattle.ref_state.proofs.run_words.Reading.{number_more, number_over, number_whole}
use Rattle.ref_state.proofs.run_words.words.number_of.Goals as goal

pub returns-in-None-checked_add : goal.returns-in-None-checked_add
returns-in-None-checked_add c =
    let over : c.in-Some.tens + (c.from-low.result - 48) < 2 ^ 64 → ⊥ = c.in-None-checked_add.ensures in
    let tens : c.in-Some.tens ≡ c.loop-digit.number * 10 = c.in-Some.ensures.1 in
    let low : c.from-low.result ≡ get_or c.args.digits.now c.loop-digit.digit-index 0 = c.from-low.ensures in
    number_over c.args.digits.now c.loop-digit.digit-index c.loop-digit.number c.loop-digit-test.true c.loop-digit.invariant.same
    (omega (arith, over, tens, low))

pub returns-in-None : goal.returns-in-None
returns-in-None c =
    let over : c.loop-digit.number * 10 < 2 ^ 64 → ⊥ = c.in-None.ensures in
    number_over c.args.digits.now c.loop-digit.digit-index c.loop-digit.number c.loop-digit-test.true c.loop-digit.invariant.same
    (omega (arith, over))

pub loop-digit-preserved : goal.loop-digit-preserved
loop-digit-preserved c =
    let within : c.in-Some.tens + (c.from-low.result - 48) < 2 ^ 64 = c.in-Some-checked_add.ensures.0 in
    let sum : c.in-Some-checked_add.sum ≡ c.in-Some.tens + (c.from-low.result - 48) = c.in-Some-checked_add.ensures.1 in
    let tens : c.in-Some.tens ≡ c.loop-digit.number * 10 = c.in-Some.ensures.1 in
    let low : c.from-low.result ≡ get_or c.args.digits.now c.loop-digit.digit-index 0 = c.from-low.ensures in
    let e : c.loop-digit.number * 10 + (get_or c.args.digits.now c.loop-digit.digit-index 0 - 48) ≡ c.in-Some-checked_add.sum =
    omega (arith, sum, tens, low) in
    record {
      same = subst (λ (m : ℕ). number_from m (drop (c.loop-digit.digit-index + 1) c.args.digits.now) ≡ number_from 0 c.args.digits.now) e
          (number_more c.args.digits.now c.loop-digit.digit-index c.loop-digit.number c.loop-digit-test.true c.loop-digit.invariant.same);
      fits = omega (arith, within, sum);
    }

pub returns : goal.returns
returns c =
    let past : length c.args.digits.now ≤ c.loop-digit.digit-index = omega arith in
    number_whole c.args.digits.now c.loop-digit.digit-index c.loop-digit.number past c.loop-digit.invariant.same c.loop-digit.invariant.fits
