-- The bases of constants, as the lexer's definitions have them.
use Rattle.c_lexer.specs.declared.numbers.Base.{Base}
use Rattle.c_lexer.specs.declared.numbers.Base.TheVariants as base
use Rattle.c_literals.specs.declared.digits.Radix.{Radix}
use Rattle.c_literals.specs.declared.digits.Radix.TheVariants.{Octal, Decimal, Hexadecimal}

abbrev pub base_seen : Radix → Base
base_seen Octal = base.Octal
base_seen Decimal = base.Decimal
base_seen Hexadecimal = base.Hexadecimal
