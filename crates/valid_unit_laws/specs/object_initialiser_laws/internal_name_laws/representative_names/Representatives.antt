-- The declarations that stand for internal names (C11 6.2.2).
use Rattle.std.specs.Prelude.{ℕ, ◌≡◌, true, List, length}
use Rattle.c_lexer.specs.declared.Tokens.{Tokens}
use Rattle.c_lexer.specs.Cut.{IsTokens}
use Rattle.c_grammar.specs.declared.trees.Tree.{Tree}
use Rattle.c_parser.specs.c_units.Units.{IsUnit}
use Rattle.c_senses.specs.Tree.{Source}
use Rattle.c_senses.specs.Names.{source_of, numbered}
use Rattle.c_senses.specs.Entities.{is_internal, entity_of}
use Rattle.c_senses.specs.Sense.{Sense, sense_in}
use Rattle.c_senses.specs.Right.{is_declaring, representative}
use Rattle.c_senses.specs.Rows.{AreSenses}

-- it declares the entity of that leaf
pub record IsKnown (s : Source) (senses : List Sense) (leaf : ℕ) : Type 0 where
  pub declares : is_declaring s senses (representative s senses leaf) ≡ true
  pub entity : entity_of s (sense_in senses) (representative s senses leaf) ≡ entity_of s (sense_in senses) leaf

-- so it is for each internal name of a unit that is read, whose rows all fit
abbrev pub RepresentativesKnown : Type 0
RepresentativesKnown =
    (tokens : Tokens) (unit : ℕ) (tree : Tree) (tag_number : ℕ → ℕ) (senses : List Sense)
    → IsTokens tokens.text.now tokens.list.items
    → IsUnit tokens unit tree
    → AreSenses (numbered tag_number (source_of tokens tree)) senses
    → length senses ≡ length (numbered tag_number (source_of tokens tree)).nodes
    → (leaf : ℕ)
    → is_internal (numbered tag_number (source_of tokens tree)) (sense_in senses) leaf ≡ true
    → IsKnown (numbered tag_number (source_of tokens tree)) senses leaf
