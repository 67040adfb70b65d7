-- Internal functions that are defined, and the owners of what is declared within functions.
use Rattle.std.specs.Prelude.{ℕ, ◌≡◌, List, length}
use Rattle.c_lexer.specs.declared.Tokens.{Tokens}
use Rattle.c_lexer.specs.Cut.{IsTokens}
use Rattle.c_grammar.specs.declared.trees.Tree.{Tree}
use Rattle.c_parser.specs.c_units.Units.{IsUnit}
use Rattle.core_tree.specs.declared.node.Unit.{Unit}
use Rattle.core_tree.specs.Typed.{trees_of}
use Rattle.core_tree.specs.Valid.{Owned}
use Rattle.c_senses.specs.Names.{source_of, numbered}
use Rattle.c_senses.specs.Sense.{Sense}
use Rattle.c_senses.specs.Rows.{AreSenses}
use Rattle.declaration_laws.specs.definition_laws.linkage_laws.PassedOn.{IsBuilt}
use Rattle.declaration_laws.specs.declared_type_laws.owner_laws.owned_laws.Owned.{InternalsDefined}

-- in a unit that is read, whose rows all fit, an internal name that is defined as a function is known by that
-- definition
abbrev pub DefinitionsKnown : Type 0
DefinitionsKnown =
    (tokens : Tokens) (unit : ℕ) (tree : Tree) (tag_number : ℕ → ℕ) (senses : List Sense)
    → IsTokens tokens.text.now tokens.list.items
    → IsUnit tokens unit tree
    → AreSenses (numbered tag_number (source_of tokens tree)) senses
    → length senses ≡ length (numbered tag_number (source_of tokens tree)).nodes
    → InternalsDefined (numbered tag_number (source_of tokens tree)) senses

-- so in a unit that is built of it an automatic object and a parameter have an owner, and each owner is a function
abbrev pub OwnersKnown : Type 0
OwnersKnown =
    (tokens : Tokens) (unit : ℕ) (tree : Tree) (tag_number : ℕ → ℕ) (name : List ℕ) (u : Unit)
    → IsTokens tokens.text.now tokens.list.items
    → IsUnit tokens unit tree
    → IsBuilt (numbered tag_number (source_of tokens tree)) name u → Owned (trees_of u)
