-- What initialisers initialise (C11 6.5.2.5, 6.7.9).
use Rattle.std.specs.Prelude.{ℕ, ◌≡◌, true, List, Some}
use Rattle.c_lexer.specs.declared.Tokens.{Tokens}
use Rattle.c_lexer.specs.Cut.{IsTokens}
use Rattle.c_types.specs.Trees.{Ctype}
use Rattle.c_grammar.specs.declared.trees.Tree.{Tree}
use Rattle.c_grammar.specs.Productions.{p_rest, p_init}
use Rattle.c_parser.specs.c_units.Units.{IsUnit}
use Rattle.core_tree.specs.Rows.{IsFunction, InitialisesEntity}
use Rattle.c_consts.specs.Core.{Core, kind_of, ctype_of, cores_under, core_in}
use Rattle.c_senses.specs.Tree.{Source, is_a, parent_of}
use Rattle.c_senses.specs.Names.{source_of, numbered}
use Rattle.c_senses.specs.Entities.{entity_of}
use Rattle.c_senses.specs.Sense.{Sense, sense_in}
use Rattle.c_senses.specs.Right.{IsLiteralOf}
use Rattle.c_senses.specs.Rows.{AreSenses}
use Rattle.core_node_laws.specs.built_unit_laws.built_rows.Rows.{types_declared}
use Rattle.valid_unit_laws.specs.object_initialiser_laws.initial_entities.PassedOn.{TypesFit}
use Rattle.valid_unit_laws.specs.object_initialiser_laws.initial_entities.Own.{IsOwnInitial}

-- the first part of a compound literal initialises its own object, which is no function
pub record IsOwnLiteral (leaf : ℕ) (c : Core) : Type 0 where
  pub initial : Core
  pub first : core_in (cores_under c) 0 ≡ Some initial
  pub initialises : InitialisesEntity (kind_of initial) leaf
  pub object : IsFunction (ctype_of c) → ⊥

-- so it is in each unit that is read, whose rows all fit, with names of the types of their entities
abbrev pub LiteralsOwn : Type 0
LiteralsOwn =
    (tokens : Tokens) (unit : ℕ) (tree : Tree) (tag_number : ℕ → ℕ) (senses : List Sense)
    → IsTokens tokens.text.now tokens.list.items
    → IsUnit tokens unit tree
    → AreSenses (numbered tag_number (source_of tokens tree)) senses
    → TypesFit (numbered tag_number (source_of tokens tree)) senses
    → (leaf : ℕ) (c : Core)
    → IsLiteralOf (numbered tag_number (source_of tokens tree)) senses leaf c
    → IsOwnLiteral leaf c

-- and the entity that an initialiser in the rest of a declaration initialises is no function
abbrev pub IsObject : Source → List Sense → ℕ → Type 0
IsObject s senses entity = (t : Ctype) → types_declared s senses entity ≡ Some t → IsFunction t → ⊥

abbrev pub InitialsAreObjects : Type 0
InitialsAreObjects =
    (tokens : Tokens) (unit : ℕ) (tree : Tree) (tag_number : ℕ → ℕ) (senses : List Sense)
    → IsTokens tokens.text.now tokens.list.items
    → IsUnit tokens unit tree
    → AreSenses (numbered tag_number (source_of tokens tree)) senses
    → TypesFit (numbered tag_number (source_of tokens tree)) senses
    → (i p : ℕ)
    → is_a (numbered tag_number (source_of tokens tree)) p_init i ≡ true
    → parent_of (numbered tag_number (source_of tokens tree)) i ≡ Some p
    → is_a (numbered tag_number (source_of tokens tree)) p_rest p ≡ true
    → (own : IsOwnInitial (numbered tag_number (source_of tokens tree)) senses i)
    → IsObject (numbered tag_number (source_of tokens tree)) senses
    (entity_of (numbered tag_number (source_of tokens tree)) (sense_in senses) own.leaf)
