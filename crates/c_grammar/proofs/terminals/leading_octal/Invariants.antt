use Rattle.std.proofs.Common.{◌≡◌, ◌+◌, drop}
use Rattle.c_grammar.specs.Terminals.{leading, is_octal}
use Rattle.c_grammar.proofs.terminals.leading_octal.Given as goal

abbrev pub invariant-loop-count : goal.invariant-loop-count
invariant-loop-count l = l.count + leading is_octal (drop l.count l.text) ≡ leading is_octal l.text
