-- The declarations that list automatic objects.
use Rattle.std.specs.Prelude.{ℕ, ◌≡◌, true, List, take}
use Rattle.c_lexer.specs.declared.Tokens.{Tokens}
use Rattle.c_grammar.specs.declared.trees.Tree.{Tree}
use Rattle.c_grammar.specs.Productions.{p_declaration}
use Rattle.c_grammar.specs.Terminals.{contains}
use Rattle.c_parser.specs.c_units.Units.{IsUnit}
use Rattle.c_senses.specs.Tree.{Source, is_a}
use Rattle.c_senses.specs.World.{World}
use Rattle.c_senses.specs.Names.{source_of, numbered}
use Rattle.c_senses.specs.Sense.{Sense, sense_in}
use Rattle.c_senses.specs.Statements.{objects_declared}
use Rattle.c_senses.specs.Rows.{AreSenses}

-- two declarations that list one object are one, whatever rows see them
abbrev pub AreApart : Source → List Sense → Type 0
AreApart s senses =
    (v w : World) (i j p q d : ℕ)
    → is_a s p_declaration p ≡ true
    → is_a s p_declaration q ≡ true
    → contains (objects_declared v s (sense_in (take i senses)) p) d ≡ true
    → contains (objects_declared w s (sense_in (take j senses)) q) d ≡ true → p ≡ q

abbrev pub ListedApart : Type 0
ListedApart =
    (tokens : Tokens) (unit : ℕ) (tree : Tree) (tag_number : ℕ → ℕ) (senses : List Sense) → IsUnit tokens unit tree
    → AreSenses (numbered tag_number (source_of tokens tree)) senses
    → AreApart (numbered tag_number (source_of tokens tree)) senses
