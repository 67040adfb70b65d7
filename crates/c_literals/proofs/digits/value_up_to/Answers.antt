use Rattle.std.proofs.Common.{◌≡◌, ℕ, ◌+◌, ◌*◌, drop, get_or, ap, ◌∙◌, arith}
use Rattle.c_lexer.specs.Bytes.{digit_value}
use Rattle.c_lexer.specs.Numbers.{radix, value_on}
use Rattle.c_lexer.proofs.Values.{radix_some}
use Rattle.c_literals.specs.Digits.{base_seen}
use Rattle.c_literals.proofs.Values.{next_digit, at_limit, at_end}
use Rattle.c_literals.proofs.digits.value_up_to.Goals as goal

pub returns-then-limit-value : goal.returns-then-limit-value
returns-then-limit-value c =
    let b = radix (base_seen c.args.radix) in
    let xs = c.args.digits.now in
    let i = c.loop-digit.digit-index in
    let next : ℕ = c.loop-digit.value * c.size_of.result + c.digit_value.result in
    let same : next ≡ c.loop-digit.value * b + digit_value (get_or xs i 0) = ap (λ n. c.loop-digit.value * n + c.digit_value.result) c.size_of.ensures ∙ ap (λ n. c.loop-digit.value * b + n) c.digit_value.ensures in
    at_limit b next (value_on b 0 xs) c.args.limit (drop (i + 1) xs) (radix_some (base_seen c.args.radix)) c.if-limit-value.true
    (next_digit b c.loop-digit.value next i _ xs c.loop-digit-test.true same c.loop-digit.invariant.value)

pub loop-digit-preserved : goal.loop-digit-preserved
loop-digit-preserved c =
    let b = radix (base_seen c.args.radix) in
    let xs = c.args.digits.now in
    let i = c.loop-digit.digit-index in
    let next : ℕ = c.loop-digit.value * c.size_of.result + c.digit_value.result in
    let same : next ≡ c.loop-digit.value * b + digit_value (get_or xs i 0) = ap (λ n. c.loop-digit.value * n + c.digit_value.result) c.size_of.ensures ∙ ap (λ n. c.loop-digit.value * b + n) c.digit_value.ensures in
    record {
      small = omega arith;
      value = next_digit b c.loop-digit.value next i _ xs c.loop-digit-test.true same c.loop-digit.invariant.value;
    }

pub returns : goal.returns
returns c = at_end (radix (base_seen c.args.radix)) c.loop-digit.value c.loop-digit.digit-index _ c.args.limit c.args.digits.now c.loop-digit-test.false c.loop-digit.invariant.small c.loop-digit.invariant.value
