-- Initialisers of a parsed unit and the declarators whose they are (C11 6.7, 6.7.9).
use Rattle.std.specs.Prelude.{ℕ, ◌≡◌, true, Some}
use Rattle.c_lexer.specs.declared.Tokens.{Tokens}
use Rattle.c_lexer.specs.Cut.{IsTokens}
use Rattle.c_grammar.specs.declared.trees.Tree.{Tree}
use Rattle.c_grammar.specs.Productions.{p_init}
use Rattle.c_parser.specs.c_units.Units.{IsUnit}
use Rattle.c_senses.specs.Tree.{Source, is_a}
use Rattle.c_senses.specs.Names.{source_of, numbered}
use Rattle.c_senses.specs.Entities.{initialised_by}
use Rattle.c_senses.specs.Sense.{Sense}

-- two initialisers of one declarator are one
abbrev pub AreApart : Source → Type 0
AreApart s =
    (sense other : ℕ → Sense) (i j d : ℕ)
    → is_a s p_init i ≡ true
    → is_a s p_init j ≡ true
    → initialised_by s sense i ≡ Some d
    → initialised_by s other j ≡ Some d
    → i ≡ j

-- so it is in each unit that is read, whatever the numbers of tags are
abbrev pub InitialisersApart : Type 0
InitialisersApart =
    (tokens : Tokens) (unit : ℕ) (tree : Tree) (tag_number : ℕ → ℕ)
    → IsTokens tokens.text.now tokens.list.items
    → IsUnit tokens unit tree
    → AreApart (numbered tag_number (source_of tokens tree))
