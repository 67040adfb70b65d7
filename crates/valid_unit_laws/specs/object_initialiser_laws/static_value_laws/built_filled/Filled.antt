-- What a built unit initialises.
use Rattle.std.specs.Prelude.{ℕ, List}
use Rattle.c_lexer.specs.declared.Tokens.{Tokens}
use Rattle.c_grammar.specs.declared.trees.Tree.{Tree}
use Rattle.c_parser.specs.c_units.Units.{IsUnit}
use Rattle.core_tree.specs.declared.node.Unit.{Unit}
use Rattle.link_model.specs.filled_units.Filled.{IsFilled}
use Rattle.c_senses.specs.Names.{source_of, numbered}
use Rattle.declaration_laws.specs.declared_type_laws.passed.built_unit_laws.built_units.Built.{IsBuilt}

-- what is built of a text initialises only objects that it defines, whatever the numbers of tags are
abbrev pub BuiltAreFilled : Type 0
BuiltAreFilled =
    (tokens : Tokens) (unit : ℕ) (tree : Tree) (tag_number : ℕ → ℕ) (name : List ℕ) (u : Unit)
    → IsUnit tokens unit tree
    → IsBuilt (numbered tag_number (source_of tokens tree)) name u
    → IsFilled u
