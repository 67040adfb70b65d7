-- Compound literals outside of blocks have their objects for the whole run (C11 6.5.2.5p5).
use Rattle.std.specs.Prelude.{ℕ, List}
use Rattle.c_lexer.specs.declared.Tokens.{Tokens}
use Rattle.c_lexer.specs.Cut.{IsTokens}
use Rattle.c_grammar.specs.declared.trees.Tree.{Tree}
use Rattle.c_parser.specs.c_units.Units.{IsUnit}
use Rattle.core_tree.specs.declared.node.Unit.{Unit}
use Rattle.c_senses.specs.Names.{source_of, numbered}
use Rattle.declaration_laws.specs.declared_type_laws.passed.built_unit_laws.built_units.Built.{IsBuilt}
use Rattle.valid_unit_laws.specs.object_initialiser_laws.static_value_laws.fixed_laws.Fixed.{LiteralsStatic}

-- so it is in each unit that is built of a text
abbrev pub LiteralsBuilt : Type 0
LiteralsBuilt =
    (tokens : Tokens) (unit : ℕ) (tree : Tree) (tag_number : ℕ → ℕ) (name : List ℕ) (u : Unit)
    → IsTokens tokens.text.now tokens.list.items
    → IsUnit tokens unit tree
    → (built : IsBuilt (numbered tag_number (source_of tokens tree)) name u)
    → LiteralsStatic (numbered tag_number (source_of tokens tree)) built.senses
