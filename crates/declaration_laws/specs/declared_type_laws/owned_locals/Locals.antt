-- Names at file scope have linkage, and what has none stands in a function (C11 6.2.2).
use Rattle.std.specs.Prelude.{ℕ, ◌≡◌, ◌≢◌, true, false, List, Some, length, slice_get}
use Rattle.c_lexer.specs.declared.Tokens.{Tokens}
use Rattle.c_lexer.specs.Cut.{IsTokens}
use Rattle.c_grammar.specs.declared.trees.Tree.{Tree}
use Rattle.c_grammar.specs.Productions.{p_external}
use Rattle.c_parser.specs.c_units.Units.{IsUnit}
use Rattle.core_tree.specs.declared.node.Unit.{Unit}
use Rattle.core_tree.specs.declared.node.Entity.{Entity}
use Rattle.core_tree.specs.declared.node.Linkage.TheVariants.{Local}
use Rattle.core_tree.specs.declared.node.Storage.TheVariants.{FunctionBody}
use Rattle.c_senses.specs.Names.{source_of, numbered}
use Rattle.c_senses.specs.Tree.{is_a}
use Rattle.c_senses.specs.Entities.{declaration_of, is_typedef, is_linked}
use Rattle.c_senses.specs.Right.{Right, is_declaring}
use Rattle.c_senses.specs.Rows.{AreSenses}
use Rattle.c_senses.specs.Sense.{Sense, sense_in}
use Rattle.core_node_laws.specs.built_unit_laws.built_units.Built.{IsBuilt}
use Rattle.core_node_laws.specs.count_laws.passed.location_laws.named_laws.Units.{IsLocalOf, HasFunction}

-- a name that an external declaration declares has linkage, unless it is a type's
abbrev pub FileNamesLinked : Type 0
FileNamesLinked =
    (tokens : Tokens) (unit : ℕ) (tree : Tree) (tag_number : ℕ → ℕ) (senses : List Sense) (leaf p : ℕ)
    → IsTokens tokens.text.now tokens.list.items
    → IsUnit tokens unit tree
    → AreSenses (numbered tag_number (source_of tokens tree)) senses
    → length senses ≡ length (numbered tag_number (source_of tokens tree)).nodes
    → is_declaring (numbered tag_number (source_of tokens tree)) senses leaf ≡ true
    → declaration_of (numbered tag_number (source_of tokens tree)) (sense_in senses) leaf ≡ Some p
    → is_a (numbered tag_number (source_of tokens tree)) p_external p ≡ true
    → is_typedef (numbered tag_number (source_of tokens tree)) (sense_in senses) leaf ≡ false
    → is_linked (numbered tag_number (source_of tokens tree)) (sense_in senses) leaf ≡ true

-- what has no linkage and is made by no compound literal stands in a function that the unit defines
abbrev pub LocalsOwned : Type 0
LocalsOwned =
    (tokens : Tokens) (unit : ℕ) (tree : Tree) (tag_number : ℕ → ℕ) (name : List ℕ) (u : Unit)
    → IsTokens tokens.text.now tokens.list.items
    → IsUnit tokens unit tree
    → IsBuilt (numbered tag_number (source_of tokens tree)) name u
    → (e : ℕ) (y : Entity)
    → IsLocalOf u e y
    → HasFunction u y

-- so it is in a unit that is right for a text
abbrev pub RightLocalsOwned : Type 0
RightLocalsOwned =
    (tokens : Tokens) (unit : ℕ) (tree : Tree) (tag_number : ℕ → ℕ) (name : List ℕ) (u : Unit)
    → IsTokens tokens.text.now tokens.list.items
    → IsUnit tokens unit tree
    → Right (numbered tag_number (source_of tokens tree)) name u
    → (e : ℕ) (y : Entity)
    → IsLocalOf u e y
    → HasFunction u y

-- what a unit that is right for a text defines as a function has linkage
abbrev pub RightBodiesLinked : Type 0
RightBodiesLinked =
    (tokens : Tokens) (unit : ℕ) (tree : Tree) (tag_number : ℕ → ℕ) (name : List ℕ) (u : Unit)
    → IsTokens tokens.text.now tokens.list.items
    → IsUnit tokens unit tree
    → Right (numbered tag_number (source_of tokens tree)) name u
    → (e : ℕ) (y : Entity)
    → slice_get u.entities.items e ≡ Some y
    → y.storage ≡ FunctionBody
    → y.linkage ≢ Local
