-- Parameters stand in parameter lists (C11 6.7.6.3).
use Rattle.std.specs.Prelude.{ℕ}
use Rattle.c_lexer.specs.declared.Tokens.{Tokens}
use Rattle.c_lexer.specs.Cut.{IsTokens}
use Rattle.c_grammar.specs.declared.trees.Tree.{Tree}
use Rattle.c_parser.specs.c_units.Units.{IsUnit}
use Rattle.c_senses.specs.Names.{source_of, numbered}
use Rattle.declaration_laws.specs.definition_laws.scope_laws.Scoped.{ParametersListed}

-- so it is in each unit that is read, whatever the numbers of tags are
abbrev pub UnitsList : Type 0
UnitsList =
    (tokens : Tokens) (unit : ℕ) (tree : Tree) (tag_number : ℕ → ℕ)
    → IsTokens tokens.text.now tokens.list.items
    → IsUnit tokens unit tree
    → ParametersListed tokens tree (numbered tag_number (source_of tokens tree))
