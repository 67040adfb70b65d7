-- What declarations say of the sizes of their objects.
use Rattle.std.specs.Prelude.{ℕ, ◌≡◌, ◌⊎◌, true, false, List, Some, None}
use Rattle.c_lexer.specs.declared.Tokens.{Tokens}
use Rattle.c_lexer.specs.Cut.{IsTokens}
use Rattle.c_types.specs.Trees.{Ctype}
use Rattle.c_types.specs.Table.{Table}
use Rattle.c_grammar.specs.declared.trees.Tree.{Tree}
use Rattle.c_grammar.specs.Productions.{p_field}
use Rattle.c_grammar.specs.Words.{word_extern}
use Rattle.c_parser.specs.c_units.Units.{IsUnit}
use Rattle.type_rules.specs.Kinds.{IsAggregate, LacksLength}
use Rattle.type_rules.specs.Sizes.{IsObject, HasSize, IsOpenIn, with_one}
use Rattle.core_tree.specs.declared.node.Unit.{Unit}
use Rattle.c_senses.specs.Names.{source_of, numbered}
use Rattle.c_senses.specs.Tree.{Source, is_a, parent_of}
use Rattle.c_senses.specs.Entities.{is_linked, is_typedef, is_parameter, declares_function, has_storage}
use Rattle.c_senses.specs.Entities.{initialiser_for, own_type}
use Rattle.c_senses.specs.Sense.{Sense, sense_in}
use Rattle.declaration_laws.specs.declared_type_laws.declared_leaves.Leaves.{IsDeclaredBy}
use Rattle.core_node_laws.specs.built_unit_laws.built_units.Built.{IsBuilt}

-- the type of a name has a size, and a length if the name has no linkage; or it is a complete structure or union;
-- or it is open and the name only declared
pub data TypeSized (s : Source) (sense : ℕ → Sense) (table : Table) (leaf : ℕ) (t : Ctype) : Type 0 where
  Sized : HasSize table (with_one t)
      → (LacksLength t → is_linked s sense leaf ≡ true)
      → TypeSized s sense table leaf t
  Complete : IsAggregate t → IsObject table t → TypeSized s sense table leaf t
  Open : IsOpenIn table t
      → has_storage s sense word_extern leaf ≡ true
      → initialiser_for s sense leaf ≡ None
      → TypeSized s sense table leaf t

-- without linkage
abbrev pub IsSizedType : Table → Ctype → Type 0
IsSizedType table t = (HasSize table (with_one t) × (LacksLength t → ⊥)) ⊎ (IsAggregate t × IsObject table t)

-- so it is in each unit that is built of a text, where the declarator is that of an object
abbrev pub ObjectsSized : Type 0
ObjectsSized =
    (tokens : Tokens) (unit : ℕ) (tree : Tree) (tag_number : ℕ → ℕ) (name : List ℕ) (u : Unit)
    → IsTokens tokens.text.now tokens.list.items
    → IsUnit tokens unit tree
    → (b : IsBuilt (numbered tag_number (source_of tokens tree)) name u)
    → (leaf m p : ℕ) (t : Ctype)
    → IsDeclaredBy (numbered tag_number (source_of tokens tree)) b.senses m leaf
    → parent_of (numbered tag_number (source_of tokens tree)) m ≡ Some p
    → is_a (numbered tag_number (source_of tokens tree)) p_field p ≡ false
    → is_parameter (numbered tag_number (source_of tokens tree)) (sense_in b.senses) leaf ≡ false
    → is_typedef (numbered tag_number (source_of tokens tree)) (sense_in b.senses) leaf ≡ false
    → declares_function (numbered tag_number (source_of tokens tree)) (sense_in b.senses) leaf ≡ false
    → own_type (numbered tag_number (source_of tokens tree)) (sense_in b.senses) leaf ≡ Some t
    → TypeSized (numbered tag_number (source_of tokens tree)) (sense_in b.senses) u.types leaf t
