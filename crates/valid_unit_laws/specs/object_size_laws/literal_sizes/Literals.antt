-- The sizes of compound literals' objects.
use Rattle.std.specs.Prelude.{ℕ, List, length}
use Rattle.c_lexer.specs.declared.Tokens.{Tokens}
use Rattle.c_lexer.specs.Cut.{IsTokens}
use Rattle.c_grammar.specs.declared.trees.Tree.{Tree}
use Rattle.c_parser.specs.c_units.Units.{IsUnit}
use Rattle.type_rules.specs.Kinds.{LacksLength}
use Rattle.type_rules.specs.Sizes.{HasSize, with_one}
use Rattle.core_tree.specs.declared.node.Unit.{Unit}
use Rattle.c_consts.specs.Core.{Core, ctype_of}
use Rattle.c_senses.specs.Names.{source_of, numbered}
use Rattle.c_senses.specs.Rows.{world_at}
use Rattle.c_senses.specs.Sense.{sense_in}
use Rattle.c_senses.specs.Right.{IsLiteralOf}
use Rattle.parsed_tree_laws.specs.sense_laws.Senses.{SoundSense}
use Rattle.core_node_laws.specs.built_unit_laws.built_rows.Rows.{types_declared}
use Rattle.core_node_laws.specs.built_unit_laws.built_units.Built.{IsBuilt}

-- each one has a size, where all senses are sound
abbrev pub LiteralsSized : Type 0
LiteralsSized =
    (tokens : Tokens) (unit : ℕ) (tree : Tree) (tag_number : ℕ → ℕ) (name : List ℕ) (u : Unit)
    → IsTokens tokens.text.now tokens.list.items
    → IsUnit tokens unit tree
    → (b : IsBuilt (numbered tag_number (source_of tokens tree)) name u)
    → ((i : ℕ)
    → SoundSense (world_at (numbered tag_number (source_of tokens tree)) b.senses (length b.senses))
    (types_declared (numbered tag_number (source_of tokens tree)) b.senses) (sense_in b.senses i))
    → (leaf : ℕ) (c : Core)
    → IsLiteralOf (numbered tag_number (source_of tokens tree)) b.senses leaf c
    → HasSize u.types (with_one (ctype_of c)) × (LacksLength (ctype_of c) → ⊥)
