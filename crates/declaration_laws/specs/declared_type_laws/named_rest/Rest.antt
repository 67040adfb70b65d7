-- The parts of a parsed unit are told apart.
use Rattle.std.specs.Prelude.{ℕ, List}
use Rattle.c_lexer.specs.declared.Tokens.{Tokens}
use Rattle.c_lexer.specs.Cut.{IsTokens}
use Rattle.c_grammar.specs.declared.trees.Tree.{Tree}
use Rattle.c_parser.specs.c_units.Units.{IsUnit}
use Rattle.c_types.specs.Made.{IsMade, AreNamed}
use Rattle.core_tree.specs.declared.node.Unit.{Unit}
use Rattle.core_node_laws.specs.count_laws.passed.location_laws.name_shapes.Bytes.{is_unit_byte, IsMadeOf}
use Rattle.core_node_laws.specs.count_laws.passed.location_laws.named_laws.Units.{IsNamedUnit}
use Rattle.c_senses.specs.Names.{source_of, numbered}
use Rattle.c_senses.specs.Right.{Right}

-- the parts of what is right for a parsed unit, over a table that was made, are told apart
abbrev pub NamedWithRest : Type 0
NamedWithRest =
    (tokens : Tokens) (unit : ℕ) (tree : Tree) (tag_number : ℕ → ℕ) (name : List ℕ) (u : Unit)
    → IsTokens tokens.text.now tokens.list.items
    → IsUnit tokens unit tree
    → Right (numbered tag_number (source_of tokens tree)) name u
    → IsMadeOf is_unit_byte name
    → IsMade u.types → AreNamed u.types → IsNamedUnit u
