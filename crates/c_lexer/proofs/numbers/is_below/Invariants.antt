use Rattle.std.proofs.Common.{◌≡◌, ◌<◌, ◌^◌, drop}
use Rattle.c_lexer.specs.Numbers.{radix, value_on}
use Rattle.c_lexer.proofs.numbers.is_below.Given as goal

abbrev pub invariant-loop-digit : goal.invariant-loop-digit
invariant-loop-digit l = record {
  small : l.value < 2 ^ 64;
  value : value_on (radix l.base) l.value (drop l.digit-index l.digits) ≡ value_on (radix l.base) 0 l.digits;
}
