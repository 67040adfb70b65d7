-- The parts of the rows of what stands before an operand (C11 6.5.3).
use Rattle.std.specs.Prelude.{ℕ, List, if◌then◌else◌}
use Rattle.pta_base.specs.declared.kind.Kind.TheVariants.{Operand}
use Rattle.pta_base.specs.declared.place.Place.{Place}
use Rattle.c_lexer.specs.declared.TokenKind.{TokenKind}
use Rattle.c_lexer.specs.declared.TokenKind.TheVariants.{Keyword, Punctuator}
use Rattle.c_grammar.specs.Productions.{p_type_name}
use Rattle.c_consts.specs.Core.{Core}
use Rattle.c_senses.specs.Tree.{Source, is_a, place_at}
use Rattle.c_senses.specs.Given.{Given, Refuses, ◌>>=◌}
use Rattle.c_senses.specs.World.{World}
use Rattle.c_senses.specs.Objects.{size_row, align_row, sized_expression}
use Rattle.c_senses.specs.Sense.{Sense, core_of, type_of_sense}
use Rattle.c_senses.specs.Expressions.{prefixed, worded}

module _ (w : World) (s : Source) (sense : ℕ → Sense) where
  -- the size of a part: a type, or an expression
  abbrev pub sized_part : Place → ℕ → ℕ → Given Core
  sized_part place at c =
      if is_a s p_type_name c then (type_of_sense at (sense c) >>= size_row w place at)
      else (core_of at (sense c) >>= sized_expression w place at)

  abbrev pub aligned_part : Place → ℕ → ℕ → Given Core
  aligned_part place at c = type_of_sense at (sense c) >>= align_row w place at

  -- what begins with a token: an operator or a word
  abbrev pub begun : ℕ → ℕ → List ℕ → TokenKind → Given Sense
  begun at first rest (Punctuator p) = prefixed w s sense (place_at s first) at p rest
  begun at first rest (Keyword k) = worded w s sense (place_at s first) at rest k
  begun at first rest kind = Refuses Operand at
