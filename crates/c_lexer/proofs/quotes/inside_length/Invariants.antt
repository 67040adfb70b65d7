use Rattle.std.proofs.Common.{◌≡◌, ℕ, ◌+◌, ◌-◌, ◌<◌, ◌≤◌, length, get_or}
use Rattle.c_lexer.specs.Quotes.{is_escaped, Closes}
use Rattle.c_lexer.proofs.quotes.inside_length.Given as goal

abbrev pub invariant-loop-count : goal.invariant-loop-count
invariant-loop-count l = record {
  within : l.quote + 1 + l.count ≤ length l.text;
  mark : l.mark ≡ get_or l.text l.quote 0;
  flag : l.escaped ≡ is_escaped l.text (l.quote + 1) l.count;
  line : (i : ℕ) → i < l.count → get_or l.text (l.quote + 1 + i) 0 ≡ 10 → ⊥;
  first : (i : ℕ) → i < l.count → Closes l.text l.quote i → ⊥;
}

abbrev pub decreases-loop-count : goal.decreases-loop-count
decreases-loop-count l = length l.text - l.count
