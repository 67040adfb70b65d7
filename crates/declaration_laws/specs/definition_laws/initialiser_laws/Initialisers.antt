-- Whose initialiser a node is (C11 6.7, 6.7.9).
use Rattle.std.specs.Prelude.{ℕ, ◌≡◌, true, Some}
use Rattle.c_lexer.specs.declared.Tokens.{Tokens}
use Rattle.c_lexer.specs.Cut.{IsTokens}
use Rattle.c_grammar.specs.declared.trees.Tree.{Tree}
use Rattle.c_grammar.specs.Productions.{p_declarator}
use Rattle.c_parser.specs.c_units.Units.{IsUnit}
use Rattle.c_senses.specs.Tree.{Source, is_a}
use Rattle.c_senses.specs.Names.{source_of, numbered}
use Rattle.c_senses.specs.Entities.{initialiser_of, initialised_by}
use Rattle.c_senses.specs.Sense.{Sense}

-- the initialiser of a declarator is an initialiser of that one
abbrev pub InitialisersAreOf : Source → Type 0
InitialisersAreOf s =
    (sense : ℕ → Sense) (o init : ℕ)
    → is_a s p_declarator o ≡ true
    → initialiser_of s sense o ≡ Some init
    → initialised_by s sense init ≡ Some o

-- so it is in each unit that is read, whatever the numbers of tags are
abbrev pub InitialisersFound : Type 0
InitialisersFound =
    (tokens : Tokens) (unit : ℕ) (tree : Tree) (tag_number : ℕ → ℕ)
    → IsTokens tokens.text.now tokens.list.items
    → IsUnit tokens unit tree
    → InitialisersAreOf (numbered tag_number (source_of tokens tree))
