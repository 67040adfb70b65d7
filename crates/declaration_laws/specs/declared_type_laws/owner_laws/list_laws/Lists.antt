-- The lists of blocks hold automatic objects of the function around.
use Rattle.std.specs.Prelude.{ℕ, List}
use Rattle.c_lexer.specs.declared.Tokens.{Tokens}
use Rattle.c_lexer.specs.Cut.{IsTokens}
use Rattle.c_grammar.specs.declared.trees.Tree.{Tree}
use Rattle.c_parser.specs.c_units.Units.{IsUnit}
use Rattle.core_tree.specs.declared.node.Unit.{Unit}
use Rattle.core_tree.specs.Typed.{trees_of}
use Rattle.core_tree.specs.Valid.{ListsRight}
use Rattle.c_senses.specs.Names.{source_of, numbered}
use Rattle.declaration_laws.specs.definition_laws.passed.built_unit_laws.built_units.Built.{IsBuilt}
use Rattle.declaration_laws.specs.definition_laws.scope_laws.Scoped.{ParametersListed}
use Rattle.declaration_laws.specs.declared_type_laws.owner_laws.Owners.{LeftsStand, DefinitionsNamed, FurtherKnown, IsOwnable}

-- under what is asked for owners
abbrev pub ListsBuilt : Type 0
ListsBuilt =
    (tokens : Tokens) (unit : ℕ) (tree : Tree) (tag_number : ℕ → ℕ) (name : List ℕ) (u : Unit)
    → IsTokens tokens.text.now tokens.list.items
    → IsUnit tokens unit tree
    → (built : IsBuilt (numbered tag_number (source_of tokens tree)) name u)
    → ParametersListed tokens tree (numbered tag_number (source_of tokens tree))
    → LeftsStand (numbered tag_number (source_of tokens tree))
    → DefinitionsNamed (numbered tag_number (source_of tokens tree)) built.senses
    → FurtherKnown (numbered tag_number (source_of tokens tree)) built.senses
    → IsOwnable u
    → ListsRight (trees_of u)
