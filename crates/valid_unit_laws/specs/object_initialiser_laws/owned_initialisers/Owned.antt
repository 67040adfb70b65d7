-- Where automatic objects are initialised in a unit that is built of a text.
use Rattle.std.specs.Prelude.{ℕ, List}
use Rattle.c_lexer.specs.declared.Tokens.{Tokens}
use Rattle.c_lexer.specs.Cut.{IsTokens}
use Rattle.c_grammar.specs.declared.trees.Tree.{Tree}
use Rattle.c_parser.specs.c_units.Units.{IsUnit}
use Rattle.core_tree.specs.declared.node.Unit.{Unit}
use Rattle.core_tree.specs.Typed.{CoreTrees, trees_of}
use Rattle.core_tree.specs.Valid.{InRows, Bodied, FixedStatics}
use Rattle.c_senses.specs.Names.{source_of, numbered}
use Rattle.core_node_laws.specs.built_unit_laws.built_units.Built.{IsBuilt}
use Rattle.declaration_laws.specs.declared_type_laws.owner_laws.Owners.{Forward}

-- what other laws give: nodes in their rows, bodies, and what initialises static objects
pub record HasBodies (u : CoreTrees) : Type 0 where
  pub rows : InRows u
  pub bodied : Bodied u
  pub fixed : FixedStatics u

-- each automatic object is initialised in its owner's body
abbrev pub OwnersInitialise : Type 0
OwnersInitialise =
    (tokens : Tokens) (unit : ℕ) (tree : Tree) (tag_number : ℕ → ℕ) (name : List ℕ) (u : Unit)
    → IsTokens tokens.text.now tokens.list.items
    → IsUnit tokens unit tree
    → (built : IsBuilt (numbered tag_number (source_of tokens tree)) name u)
    → HasBodies (trees_of u)
    → Forward (trees_of u)
