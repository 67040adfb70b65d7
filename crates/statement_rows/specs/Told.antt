-- What the rows of statements are told.
use Rattle.std.specs.Prelude.{ℕ, ◌≡◌, ◌==◌, ◌||◌, IsTrue, true}
use Rattle.c_grammar.specs.Productions.{p_rest, p_declaration, p_block, p_statement}
use Rattle.c_senses.specs.Tree.{Source, is_name, spelling_at}
use Rattle.c_senses.specs.World.{World}
use Rattle.c_senses.specs.Sense.{Sense}
use Rattle.c_statements.specs.declared.choices.Choices.{Choices}
use Rattle.c_statements.specs.Labels.{IsAscii, AreCases, AreDefaults}

-- each name is spelled in ASCII
abbrev pub AreSpelled : Source → Type 0
AreSpelled s = (name : ℕ) → is_name s name ≡ true → IsAscii (spelling_at s name)

-- the cases and the defaults before a node are those of the senses, and names are spelled so
pub record IsTold (w : World) (s : Source) (sense : ℕ → Sense) (at : ℕ) (choices : Choices) : Type 0 where
  pub defaults : AreDefaults w s sense at choices.defaults
  pub cases : AreCases w s sense at choices.cases
  pub spelled : AreSpelled s

-- a statement, a block, a declaration or the rest of one
abbrev pub IsStatementPart : ℕ → Type 0
IsStatementPart production =
    IsTrue
    ((production == p_rest)
    || ((production == p_declaration) || ((production == p_block) || (production == p_statement))))
