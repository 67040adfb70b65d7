-- Initialisers and the declarators that come behind theirs (C11 6.7, 6.7.9).
use Rattle.std.specs.Prelude.{ℕ, ◌≡◌, ◌<◌, ◌⊎◌, ◌||◌, true, Some}
use Rattle.c_lexer.specs.declared.Tokens.{Tokens}
use Rattle.c_lexer.specs.Cut.{IsTokens}
use Rattle.c_grammar.specs.declared.trees.Tree.{Tree}
use Rattle.c_grammar.specs.Productions.{p_external, p_rest, p_declaration, p_declarator, p_init}
use Rattle.c_grammar.specs.Terminals.{contains}
use Rattle.c_parser.specs.c_units.Units.{IsUnit}
use Rattle.c_senses.specs.Tree.{Source, is_a, children_at, parent_of}
use Rattle.c_senses.specs.Names.{source_of, numbered}
use Rattle.c_senses.specs.Entities.{initialised_by}
use Rattle.c_senses.specs.Sense.{Sense}

-- a declarator of a declaration: a part of it, or of its rest
abbrev pub StandsDeclaring : Source → ℕ → Type 0
StandsDeclaring s k =
    (above : ℕ) × (is_a s p_declarator k ≡ true) × (contains (children_at s above) k ≡ true)
    × ((is_a s p_rest above ≡ true) ⊎ ((is_a s p_external above || is_a s p_declaration above) ≡ true))

-- behind a declarator that has an initialiser, the next declarators stand behind the initialiser too
abbrev pub InitialisersComeFirst : Source → Type 0
InitialisersComeFirst s =
    (sense : ℕ → Sense) (init p declarator k : ℕ)
    → is_a s p_init init ≡ true
    → parent_of s init ≡ Some p
    → is_a s p_rest p ≡ true
    → initialised_by s sense init ≡ Some declarator
    → StandsDeclaring s k
    → declarator < k
    → init < k

-- so it is in each unit that is read, whatever the numbers of tags are
abbrev pub InitialisersEarlier : Type 0
InitialisersEarlier =
    (tokens : Tokens) (unit : ℕ) (tree : Tree) (tag_number : ℕ → ℕ)
    → IsTokens tokens.text.now tokens.list.items
    → IsUnit tokens unit tree
    → InitialisersComeFirst (numbered tag_number (source_of tokens tree))
