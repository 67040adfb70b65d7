-- A node is the initialiser of the declarator whose initialiser it is (C11 6.7, 6.7.9).
use Rattle.std.specs.Prelude.{ℕ, ◌≡◌, true, Some}
use Rattle.c_lexer.specs.declared.Tokens.{Tokens}
use Rattle.c_lexer.specs.Cut.{IsTokens}
use Rattle.c_grammar.specs.declared.trees.Tree.{Tree}
use Rattle.c_grammar.specs.Productions.{p_rest, p_init}
use Rattle.c_parser.specs.c_units.Units.{IsUnit}
use Rattle.c_senses.specs.Tree.{Source, is_a, parent_of}
use Rattle.c_senses.specs.Names.{source_of, numbered}
use Rattle.c_senses.specs.Entities.{initialiser_of, initialised_by}
use Rattle.c_senses.specs.Sense.{Sense}

-- an initialiser in the rest of a declaration is the one of the declarator that it belongs to
abbrev pub InitialisersAreOwn : Source → Type 0
InitialisersAreOwn s =
    (known all : ℕ → Sense) (init p declarator : ℕ)
    → is_a s p_init init ≡ true
    → parent_of s init ≡ Some p
    → is_a s p_rest p ≡ true
    → initialised_by s known init ≡ Some declarator
    → initialiser_of s all declarator ≡ Some init

-- so it is in each unit that is read, whatever the numbers of tags are
abbrev pub InitialisersStand : Type 0
InitialisersStand =
    (tokens : Tokens) (unit : ℕ) (tree : Tree) (tag_number : ℕ → ℕ)
    → IsTokens tokens.text.now tokens.list.items
    → IsUnit tokens unit tree
    → InitialisersAreOwn (numbered tag_number (source_of tokens tree))
