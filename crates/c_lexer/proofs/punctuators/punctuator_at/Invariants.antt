use Rattle.std.proofs.Common.{ℕ, ◌<◌}
use Rattle.c_lexer.specs.Spells.{Spells}
use Rattle.c_lexer.specs.Spellings.{spelling}
use Rattle.c_lexer.proofs.punctuators.punctuator_at.Given as goal

abbrev pub invariant-loop-k : goal.invariant-loop-k
invariant-loop-k l = (j : ℕ) → j < l.k → Spells l.text l.from (spelling j) → ⊥
