pub use Rattle.c_grammar.specs.PassedOn.{TokenKind, Identifier, Keyword, Punctuator, Integer, Floating, Character}
pub use Rattle.c_grammar.specs.PassedOn.{Text, End, Base, Octal, Decimal, Hexadecimal, value, behind, digit_count}
pub use Rattle.c_grammar.specs.PassedOn.{begins_hexadecimal, octal_value, Token, Tokens}
