-- What digits are worth, up to a limit.
use Rattle.std.proofs.Common.{◌≡◌, ℕ, ◌+◌, ◌*◌, ◌<◌, ◌≤◌, min, List, length, drop, get_or, sym, ap, ◌∙◌, arith}
use Rattle.c_lexer.specs.Bytes.{digit_value}
use Rattle.c_lexer.specs.Numbers.{value_on}
use Rattle.c_lexer.proofs.Values.{value_grows, value_step, value_end}

-- one digit more
pub next_digit : (base value next at total : ℕ) (xs : List ℕ) → at < length xs → next ≡ value * base + digit_value (get_or xs at 0) → value_on base value (drop at xs) ≡ total → value_on base next (drop (at + 1) xs) ≡ total
next_digit base value next at total xs h e v = ap (λ n. value_on base n (drop (at + 1) xs)) e ∙ (sym (value_step base value at xs h) ∙ v)

-- at the limit
pub at_limit : (base next total limit : ℕ) (xs : List ℕ) → 0 < base → limit ≤ next → value_on base next xs ≡ total → limit ≡ min total limit
at_limit base next total limit xs b l v = let g = value_grows base next xs b in omega arith

-- at the end
pub at_end : (base value at total limit : ℕ) (xs : List ℕ) → length xs ≤ at → value ≤ limit → value_on base value (drop at xs) ≡ total → value ≡ min total limit
at_end base value at total limit xs h l v = let e = value_end base value at xs h in omega arith
