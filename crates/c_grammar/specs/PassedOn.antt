-- What this crate passes on, from those below it to those above it.
pub use Rattle.c_lexer.specs.declared.Token.{Token}
pub use Rattle.c_lexer.specs.declared.Tokens.{Tokens}
pub use Rattle.c_lexer.specs.declared.numbers.Base.{Base}
pub use Rattle.c_lexer.specs.declared.numbers.Base.TheVariants.{Decimal, Hexadecimal, Octal}
pub use Rattle.c_lexer.specs.Numbers.{begins_hexadecimal, behind, digit_count, value}
pub use Rattle.c_lexer.specs.Escapes.{octal_value}
pub use Rattle.c_lexer.specs.declared.TokenKind.{TokenKind}
pub use Rattle.c_lexer.specs.declared.TokenKind.TheVariants.{Character, End, Floating, Identifier, Integer, Keyword}
pub use Rattle.c_lexer.specs.declared.TokenKind.TheVariants.{Punctuator, Text}
