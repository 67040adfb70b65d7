-- The sizes of entities.
use Rattle.std.specs.Prelude.{ℕ, length, List}
use Rattle.c_lexer.specs.declared.Tokens.{Tokens}
use Rattle.c_lexer.specs.Cut.{IsTokens}
use Rattle.c_grammar.specs.declared.trees.Tree.{Tree}
use Rattle.c_parser.specs.c_units.Units.{IsUnit}
use Rattle.type_rules.specs.Sizes.{TagsHaveSizes}
use Rattle.core_tree.specs.declared.node.Unit.{Unit}
use Rattle.core_tree.specs.Typed.{trees_of}
use Rattle.core_tree.specs.Range.{EachEntity}
use Rattle.core_tree.specs.Valid.{EntitySized}
use Rattle.c_senses.specs.Names.{source_of, numbered}
use Rattle.c_senses.specs.Rows.{world_at}
use Rattle.c_senses.specs.Sense.{sense_in}
use Rattle.parsed_tree_laws.specs.sense_laws.Senses.{SoundSense}
use Rattle.core_node_laws.specs.built_unit_laws.built_rows.Rows.{types_declared}
use Rattle.core_node_laws.specs.built_unit_laws.built_units.Built.{IsBuilt}

-- each entity of a unit that is built of a text has a size or is only declared, where what is complete has a size,
-- and all senses are sound
abbrev pub EntitiesSized : Type 0
EntitiesSized =
    (tokens : Tokens) (unit : ℕ) (tree : Tree) (tag_number : ℕ → ℕ) (name : List ℕ) (u : Unit)
    → IsTokens tokens.text.now tokens.list.items
    → IsUnit tokens unit tree
    → (b : IsBuilt (numbered tag_number (source_of tokens tree)) name u)
    → ((i : ℕ)
    → SoundSense (world_at (numbered tag_number (source_of tokens tree)) b.senses (length b.senses))
    (types_declared (numbered tag_number (source_of tokens tree)) b.senses) (sense_in b.senses i))
    → TagsHaveSizes u.types → EachEntity (trees_of u) (λ e entity. EntitySized (trees_of u) entity)
