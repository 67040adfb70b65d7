-- From where on the entity of a name is known (C11 6.2.2).
use Rattle.std.specs.Prelude.{ℕ, ◌≡◌, ◌≤◌, List, Some, take}
use Rattle.c_lexer.specs.declared.Tokens.{Tokens}
use Rattle.c_lexer.specs.Cut.{IsTokens}
use Rattle.c_grammar.specs.declared.trees.Tree.{Tree}
use Rattle.c_parser.specs.c_units.Units.{IsUnit}
use Rattle.c_senses.specs.Tree.{Source}
use Rattle.c_senses.specs.Names.{source_of, numbered}
use Rattle.c_senses.specs.Declarators.{outermost_of}
use Rattle.c_senses.specs.Entities.{is_internal, entity_of}
use Rattle.c_senses.specs.Sense.{Sense, sense_in}

-- what is said of a name's linkage and entity at a node is what is said at the end
pub record IsKnownAt (s : Source) (senses : List Sense) (at leaf : ℕ) : Type 0 where
  pub internal : is_internal s (sense_in (take at senses)) leaf ≡ is_internal s (sense_in senses) leaf
  pub entity : entity_of s (sense_in (take at senses)) leaf ≡ entity_of s (sense_in senses) leaf

-- so it is in each unit that is read, at the outermost declarator of the name and at each node behind it
abbrev pub EntitiesKnown : Type 0
EntitiesKnown =
    (tokens : Tokens) (unit : ℕ) (tree : Tree) (tag_number : ℕ → ℕ) (senses : List Sense)
    → IsTokens tokens.text.now tokens.list.items
    → IsUnit tokens unit tree
    → (leaf m at : ℕ)
    → outermost_of (numbered tag_number (source_of tokens tree)) leaf ≡ Some m
    → m ≤ at
    → IsKnownAt (numbered tag_number (source_of tokens tree)) senses at leaf
