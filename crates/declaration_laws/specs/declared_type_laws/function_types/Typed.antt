-- The types of what is declared as a function.
use Rattle.std.specs.Prelude.{ℕ, ◌≡◌, ◌⊎◌, ⊤, true, length, List, Some}
use Rattle.c_lexer.specs.declared.Tokens.{Tokens}
use Rattle.c_types.specs.Trees.{Ctype, FloatingType, VaListType, StructureOf, UnionOf}
use Rattle.c_grammar.specs.declared.trees.Tree.{Tree}
use Rattle.c_parser.specs.c_units.Units.{IsUnit}
use Rattle.core_tree.specs.Rows.{IsFunction, int}
use Rattle.c_senses.specs.Names.{source_of, numbered}
use Rattle.c_senses.specs.Tree.{Source}
use Rattle.c_senses.specs.Entities.{declares_function, own_type}
use Rattle.c_senses.specs.Rows.{AreSenses}
use Rattle.c_senses.specs.Sense.{Sense, sense_in}

-- a type that a specifier other than a word names
abbrev pub IsNamedType : Ctype → Type 0
IsNamedType (StructureOf tag) = ⊤
IsNamedType (UnionOf tag) = ⊤
IsNamedType FloatingType = ⊤
IsNamedType VaListType = ⊤
IsNamedType t = t ≡ int

-- what is declared as a function has a function's type, or the one that its specifiers name
abbrev pub FunctionsTyped : Source → List Sense → Type 0
FunctionsTyped s senses =
    (leaf : ℕ) (t : Ctype)
    → declares_function s (sense_in senses) leaf ≡ true
    → own_type s (sense_in senses) leaf ≡ Some t
    → IsFunction t ⊎ IsNamedType t

-- so it is in each unit, where all nodes have senses
abbrev pub FunctionsGiven : Type 0
FunctionsGiven =
    (tokens : Tokens) (unit : ℕ) (tree : Tree) (tag_number : ℕ → ℕ) (senses : List Sense)
    → IsUnit tokens unit tree
    → AreSenses (numbered tag_number (source_of tokens tree)) senses
    → length senses ≡ length (numbered tag_number (source_of tokens tree)).nodes
    → FunctionsTyped (numbered tag_number (source_of tokens tree)) senses
