use Rattle.std.proofs.Common.{◌≡◌, ℕ, ◌<◌}
use Rattle.c_lexer.specs.Quotes.{is_escaped}
use Rattle.c_lexer.specs.Escapes.{IsBad}
use Rattle.c_lexer.proofs.escapes.first_bad.Given as goal

abbrev pub invariant-loop-count : goal.invariant-loop-count
invariant-loop-count l = record {
  flag : l.escaped ≡ is_escaped l.text l.inside l.count;
  before : (i : ℕ) → i < l.count → IsBad l.wide l.text l.inside i → ⊥;
}
