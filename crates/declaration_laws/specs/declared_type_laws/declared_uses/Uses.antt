-- Uses of external names in the unit that is built of a text.
use Rattle.std.specs.Prelude.{ℕ, List}
use Rattle.c_lexer.specs.declared.Tokens.{Tokens}
use Rattle.c_lexer.specs.Cut.{IsTokens}
use Rattle.c_grammar.specs.declared.trees.Tree.{Tree}
use Rattle.c_parser.specs.c_units.Units.{IsUnit}
use Rattle.c_types.specs.Table.{type_of}
use Rattle.core_tree.specs.declared.node.Unit.{Unit}
use Rattle.core_tree.specs.Typed.{trees_of}
use Rattle.core_tree.specs.Range.{EachNode}
use Rattle.core_tree.specs.Linkages.{UsesDeclared}
use Rattle.c_senses.specs.Names.{source_of, numbered}
use Rattle.core_node_laws.specs.built_unit_laws.built_units.Built.{IsBuilt}

-- they have the types of external declarations of the names
abbrev pub UsesAreDeclared : Type 0
UsesAreDeclared =
    (tokens : Tokens) (unit : ℕ) (tree : Tree) (tag_number : ℕ → ℕ) (name : List ℕ) (u : Unit)
    → IsTokens tokens.text.now tokens.list.items
    → IsUnit tokens unit tree
    → IsBuilt (numbered tag_number (source_of tokens tree)) name u
    → EachNode (trees_of u) (λ n node. UsesDeclared (trees_of u) (type_of u.types node.ty.0) node.kind)
