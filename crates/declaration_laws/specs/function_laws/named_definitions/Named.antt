-- The block of a function stands in the definition of its name (C11 6.9.1).
use Rattle.std.specs.Prelude.{ℕ, ◌≡◌, true, List, Some, length, option_map}
use Rattle.c_lexer.specs.declared.Tokens.{Tokens}
use Rattle.c_lexer.specs.Cut.{IsTokens}
use Rattle.c_grammar.specs.declared.trees.Tree.{Tree}
use Rattle.c_parser.specs.c_units.Units.{IsUnit}
use Rattle.c_senses.specs.Tree.{Source}
use Rattle.c_senses.specs.Names.{source_of, numbered}
use Rattle.c_senses.specs.Entities.{entity_of, function_around, is_defined}
use Rattle.c_senses.specs.Right.{declares_entity, representative, block_for}
use Rattle.c_senses.specs.Rows.{AreSenses}
use Rattle.c_senses.specs.Sense.{Sense, sense_in}

-- the function around the block of an entity's definition is the entity
abbrev pub BlocksNamed : Source → List Sense → Type 0
BlocksNamed s senses =
    (d block : ℕ)
    → declares_entity s senses d ≡ true
    → is_defined s (sense_in senses) (representative s senses d) ≡ true
    → block_for s senses (representative s senses d) ≡ Some block
    → option_map (entity_of s (sense_in senses)) (function_around s (sense_in senses) block) ≡ Some d

-- so it is in each unit that is read, whose rows all fit
abbrev pub DefinitionsAreNamed : Type 0
DefinitionsAreNamed =
    (tokens : Tokens) (unit : ℕ) (tree : Tree) (tag_number : ℕ → ℕ) (senses : List Sense)
    → IsTokens tokens.text.now tokens.list.items
    → IsUnit tokens unit tree
    → AreSenses (numbered tag_number (source_of tokens tree)) senses
    → length senses ≡ length (numbered tag_number (source_of tokens tree)).nodes
    → BlocksNamed (numbered tag_number (source_of tokens tree)) senses
