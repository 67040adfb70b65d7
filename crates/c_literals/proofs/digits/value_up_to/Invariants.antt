use Rattle.std.proofs.Common.{◌≡◌, ◌≤◌, drop}
use Rattle.c_lexer.specs.Numbers.{radix, value_on}
use Rattle.c_literals.specs.Digits.{base_seen}
use Rattle.c_literals.proofs.digits.value_up_to.Given as goal

abbrev pub invariant-loop-digit : goal.invariant-loop-digit
invariant-loop-digit l = record {
  small : l.value ≤ l.limit;
  value : value_on (radix (base_seen l.radix)) l.value (drop l.digit-index l.digits) ≡ value_on (radix (base_seen l.radix)) 0 l.digits;
}
