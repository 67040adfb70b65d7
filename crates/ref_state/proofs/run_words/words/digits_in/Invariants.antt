use Rattle.std.proofs.Common.{◌≡◌, ℕ, ◌<◌, true, get_or}
use Rattle.ref_state.specs.run_words.Words.{is_digit}
use Rattle.ref_state.proofs.run_words.words.digits_in.Given as goal

abbrev pub invariant-loop-i : goal.invariant-loop-i
invariant-loop-i l = (k : ℕ) → k < l.i → is_digit (get_or l.text k 0) ≡ true
