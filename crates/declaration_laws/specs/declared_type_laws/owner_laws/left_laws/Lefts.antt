-- What stands to the left of an operator behind it, in a parsed tree (C11 6.5.2).
use Rattle.std.specs.Prelude.{ℕ}
use Rattle.c_lexer.specs.declared.Tokens.{Tokens}
use Rattle.c_grammar.specs.declared.trees.Tree.{Tree}
use Rattle.c_parser.specs.c_units.Units.{IsUnit}
use Rattle.c_senses.specs.Names.{source_of, numbered}
use Rattle.declaration_laws.specs.declared_type_laws.owner_laws.Owners.{LeftsStand}

-- so it is in each unit that is read, whatever the numbers of tags are
abbrev pub UnitsLefts : Type 0
UnitsLefts =
    (tokens : Tokens) (unit : ℕ) (tree : Tree) (tag_number : ℕ → ℕ)
    → IsUnit tokens unit tree
    → LeftsStand (numbered tag_number (source_of tokens tree))
