-- The row of a primary as far as it is built (C11 6.5.1): a constant that no type holds, and strings that stand for
-- no bytes, say that they aren't. No token that a reading takes is one.
use Rattle.std.specs.Prelude.{ℕ, List, [], ◌∷◌}
use Rattle.pta_base.specs.declared.kind.Kind.TheVariants.{Operand}
use Rattle.c_lexer.specs.declared.TokenKind.{TokenKind}
use Rattle.c_lexer.specs.declared.TokenKind.TheVariants.{Identifier, Keyword, Punctuator, Integer, Floating}
use Rattle.c_lexer.specs.declared.TokenKind.TheVariants.{Character, Text, End}
use Rattle.c_senses.specs.Tree.{Source, place_at, spelling_at, kind_at}
use Rattle.c_senses.specs.Given.{Given, Refuses}
use Rattle.c_senses.specs.World.{World}
use Rattle.c_senses.specs.Sense.{Sense, fits}
use Rattle.c_senses.specs.Expressions.{as_sense, passed, string_bytes, named_primary}
use Rattle.expression_rows.specs.c_rows.Literals.{built_integer, character_core, built_text}

module _ (w : World) (s : Source) (sense : ℕ → Sense) where
  abbrev pub built_primary_of : ℕ → ℕ → List ℕ → TokenKind → Given Sense
  built_primary_of at first rest Identifier = named_primary w s sense at first rest
  built_primary_of at first rest Integer = as_sense (built_integer at (place_at s first) (spelling_at s first))
  built_primary_of at first rest (Punctuator p) = passed sense at rest
  built_primary_of at first rest Character = fits (character_core (place_at s first) (spelling_at s first))
  built_primary_of at first rest Text =
      as_sense (built_text at (place_at s first) (string_bytes w s sense (first ∷ rest)))
  built_primary_of at first rest (Keyword k) = Refuses Operand at
  built_primary_of at first rest Floating = Refuses Operand at
  built_primary_of at first rest End = Refuses Operand at

  abbrev pub built_primary : ℕ → List ℕ → Given Sense
  built_primary at [] = Refuses Operand at
  built_primary at (first ∷ rest) = built_primary_of at first rest (kind_at s first)
