-- The lists of blocks and of `for` statements.
use Rattle.std.specs.Prelude.{ℕ, List}
use Rattle.c_lexer.specs.declared.Tokens.{Tokens}
use Rattle.c_lexer.specs.Cut.{IsTokens}
use Rattle.c_grammar.specs.declared.trees.Tree.{Tree}
use Rattle.c_parser.specs.c_units.Units.{IsUnit}
use Rattle.core_tree.specs.declared.node.Unit.{Unit}
use Rattle.core_tree.specs.Typed.{trees_of}
use Rattle.core_tree.specs.Range.{EachEntity, OnceHeld, listed_in}
use Rattle.c_senses.specs.Names.{source_of, numbered}
use Rattle.core_node_laws.specs.built_unit_laws.built_units.Built.{IsBuilt}
use Rattle.core_node_laws.specs.count_laws.once_nodes.Once.{IsLaid}

-- one of them at most has an entity, and has it once
abbrev pub ListsOnce : Type 0
ListsOnce =
    (tokens : Tokens) (unit : ℕ) (tree : Tree) (tag_number : ℕ → ℕ) (name : List ℕ) (u : Unit)
    → IsTokens tokens.text.now tokens.list.items
    → IsUnit tokens unit tree
    → (built : IsBuilt (numbered tag_number (source_of tokens tree)) name u)
    → IsLaid (numbered tag_number (source_of tokens tree)) built.senses built.numbering u
    → EachEntity (trees_of u) (λ e entity. OnceHeld (trees_of u) listed_in e)
