use Rattle.std.proofs.Common.{◌≡◌, ℕ, ◌+◌, ◌*◌, ◌<◌, ◌≤◌, drop, get_or, sym, ap, ◌∙◌, arith, nat_lt}
use Rattle.std.proofs.lemmas.Bool.{le-ltb}
use Rattle.c_lexer.specs.Bytes.{digit_value}
use Rattle.c_lexer.specs.Numbers.{radix, value_on}
use Rattle.c_lexer.proofs.Values.{value_grows, value_step, value_end, radix_some}
use Rattle.c_lexer.proofs.numbers.is_below.Goals as goal

pub returns-then-limit-value : goal.returns-then-limit-value
returns-then-limit-value c =
    let b = radix c.args.base in
    let xs = c.args.digits.now in
    let i = c.loop-digit.digit-index in
    let next : ℕ = c.loop-digit.value * c.radix.result + c.digit_value.result in
    let same : next ≡ c.loop-digit.value * b + digit_value (get_or xs i 0) = ap (λ n. c.loop-digit.value * n + c.digit_value.result) c.radix.ensures ∙ ap (λ n. c.loop-digit.value * b + n) c.digit_value.ensures in
    let step : value_on b next (drop (i + 1) xs) ≡ value_on b 0 xs = ap (λ n. value_on b n (drop (i + 1) xs)) same ∙ (sym (value_step b c.loop-digit.value i xs c.loop-digit-test.true) ∙ c.loop-digit.invariant.value) in
    let grows : next ≤ value_on b next (drop (i + 1) xs) = value_grows b next (drop (i + 1) xs) (radix_some c.args.base) in
    sym (le-ltb (value_on b 0 xs) c.args.limit (let l : c.args.limit ≤ next = c.if-limit-value.true in omega arith))

pub loop-digit-preserved : goal.loop-digit-preserved
loop-digit-preserved c =
    let b = radix c.args.base in
    let xs = c.args.digits.now in
    let i = c.loop-digit.digit-index in
    let next : ℕ = c.loop-digit.value * c.radix.result + c.digit_value.result in
    let same : next ≡ c.loop-digit.value * b + digit_value (get_or xs i 0) = ap (λ n. c.loop-digit.value * n + c.digit_value.result) c.radix.ensures ∙ ap (λ n. c.loop-digit.value * b + n) c.digit_value.ensures in
    record {
      small = (let l : next < c.args.limit = c.if-limit-value.false in omega (arith, c.requires));
      value = ap (λ n. value_on b n (drop (i + 1) xs)) same ∙ (sym (value_step b c.loop-digit.value i xs c.loop-digit-test.true) ∙ c.loop-digit.invariant.value);
    }

pub returns : goal.returns
returns c = ap (λ n. nat_lt n c.args.limit) (sym (value_end (radix c.args.base) c.loop-digit.value c.loop-digit.digit-index c.args.digits.now c.loop-digit-test.false) ∙ c.loop-digit.invariant.value)
