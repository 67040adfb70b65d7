-- A unit that is built of a text is valid.
use Rattle.std.specs.Prelude.{ℕ, List}
use Rattle.c_lexer.specs.declared.Tokens.{Tokens}
use Rattle.c_lexer.specs.Cut.{IsTokens}
use Rattle.c_grammar.specs.declared.trees.Tree.{Tree}
use Rattle.c_parser.specs.c_units.Units.{IsUnit}
use Rattle.core_tree.specs.declared.node.Unit.{Unit}
use Rattle.core_tree.specs.Valid.{ValidUnit}
use Rattle.c_scope.specs.declared.resolving.Bound.{Bound}
use Rattle.c_scope.specs.Resolves.{IsBound}
use Rattle.c_senses.specs.Names.{source_of, numbered}
use Rattle.core_node_laws.specs.built_unit_laws.tag_sizes.Sizes.{TagsSpecified}
use Rattle.core_node_laws.specs.built_unit_laws.built_units.Built.{IsBuilt}

abbrev pub BuiltIsValid : Type 0
BuiltIsValid =
    (tokens : Tokens) (unit : ℕ) (tree : Tree) (tag_number : ℕ → ℕ) (name : List ℕ) (u : Unit)
    (bound : Bound)
    → IsTokens tokens.text.now tokens.list.items
    → IsUnit tokens unit tree
    → IsBound tokens tree bound → IsBuilt (numbered tag_number (source_of tokens tree)) name u
    → TagsSpecified (numbered tag_number (source_of tokens tree)) u.types → ValidUnit u
