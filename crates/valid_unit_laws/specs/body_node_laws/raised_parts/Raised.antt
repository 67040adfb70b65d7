-- Where the unit that is put together of the parts of a walk initialises its objects.
use Rattle.std.specs.Prelude.{ℕ, ◌≡◌, ◌<◌, List, Some}
use Rattle.c_lexer.specs.declared.Tokens.{Tokens}
use Rattle.c_lexer.specs.Cut.{IsTokens}
use Rattle.c_grammar.specs.declared.trees.Tree.{Tree}
use Rattle.c_parser.specs.c_units.Units.{IsUnit}
use Rattle.core_tree.specs.declared.node.Unit.{Unit}
use Rattle.core_tree.specs.declared.node.Storage.TheVariants.{Automatic}
use Rattle.c_consts.specs.Core.{Core}
use Rattle.c_senses.specs.Tree.{Source}
use Rattle.c_senses.specs.Names.{source_of, numbered}
use Rattle.c_senses.specs.Sense.{Sense}
use Rattle.c_senses.specs.Right.{Declared as Declares, declared_name, Within, InitialisesOnce}
use Rattle.unit_finish.specs.declared.unit_parts.declared.Declared.{Declared}
use Rattle.unit_finish.specs.own_bodies.Own.{HaveOwnBodies}
use Rattle.valid_unit_laws.specs.body_node_laws.parts_initialise.PassedOn.{TypesFit}
use Rattle.core_node_laws.specs.built_unit_laws.built_parts.Parts.{ArePut}

-- what has an automatic object's initialiser in its body, and is no automatic object itself, is known by a leaf
-- before that object's
abbrev pub HoldersFirst : Source → List Sense → Type 0
HoldersFirst s senses =
    (leaf holder : ℕ) (object what : Declares) (x c : Core)
    → declared_name s senses leaf ≡ Some object
    → object.storage ≡ Automatic
    → object.body ≡ Some x
    → declared_name s senses holder ≡ Some what
    → (what.storage ≡ Automatic → ⊥)
    → what.body ≡ Some c
    → Within s senses x c
    → holder < leaf

abbrev pub PartsInitialiseOnce : Type 0
PartsInitialiseOnce =
    (tokens : Tokens) (unit : ℕ) (tree : Tree) (tag_number : ℕ → ℕ) (name : List ℕ) (u : Unit)
    → IsTokens tokens.text.now tokens.list.items
    → IsUnit tokens unit tree
    → (put : ArePut (numbered tag_number (source_of tokens tree)) name u)
    → (list : List Declared)
    → HaveOwnBodies put.walked.nodes.items list put.names
    → TypesFit (numbered tag_number (source_of tokens tree)) put.senses → InitialisesOnce u
