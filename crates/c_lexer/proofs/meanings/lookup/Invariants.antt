use Rattle.std.proofs.Common.{◌≡◌, drop, map}
use Rattle.c_lexer.specs.Meanings.{lookup}
use Rattle.c_lexer.proofs.meanings.lookup.Given as goal

abbrev pub invariant-loop-entry : goal.invariant-loop-entry
invariant-loop-entry l = lookup (map (λ e. (e.0.now, e.1)) (drop l.entry-index l.table)) l.word ≡ lookup (map (λ e. (e.0.now, e.1)) l.table) l.word
