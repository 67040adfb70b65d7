use Rattle.std.proofs.Common.{◌≡◌, ◌+◌, drop}
use Rattle.c_grammar.specs.Terminals.{leading, is_hexadecimal}
use Rattle.c_grammar.proofs.terminals.leading_hexadecimal.Given as goal

abbrev pub invariant-loop-count : goal.invariant-loop-count
invariant-loop-count l = l.count + leading is_hexadecimal (drop l.count l.text) ≡ leading is_hexadecimal l.text
