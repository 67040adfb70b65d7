-- That the nodes of a built unit stand in their rows.
use Rattle.std.specs.Prelude.{ℕ, ◌==◌, Bool, false, ◌&&◌, ◌||◌, List, Option, Some, None, option_and_then}
use Rattle.std.specs.Prelude.{if◌then◌else◌}
use Rattle.c_types.specs.Trees.{Ctype}
use Rattle.core_tree.specs.declared.node.Unit.{Unit}
use Rattle.core_tree.specs.Typed.{trees_of}
use Rattle.core_tree.specs.Rows.{entity_type}
use Rattle.core_tree.specs.Valid.{InRows, entity_at}
use Rattle.c_grammar.specs.Productions.{p_items, p_cast, p_unary}
use Rattle.c_grammar.specs.Words.{sign_left_parenthesis}
use Rattle.c_consts.specs.Core.{ctype_of}
use Rattle.c_senses.specs.Tree.{Source, is_a, is_name, has_sign, children_at, first_where, parent_of, all_nodes}
use Rattle.c_senses.specs.Sense.{Sense, IsCore, sense_in}
use Rattle.c_senses.specs.Right.{Numbering}
use Rattle.c_senses.specs.Right as right
use Rattle.c_initialise.specs.passed.sense_laws.Senses.{ChildrenFirst, ConstantsFit, StatementGrammar}
use Rattle.core_node_laws.specs.built_unit_laws.align_laws.Aligns.{AllElseFits, AskedElseFit}
use Rattle.core_node_laws.specs.built_unit_laws.built_laws.PassedOn.{IsBuilt}

-- the type of the entity of each leaf
abbrev pub type_by : Unit → Numbering → ℕ → Option Ctype
type_by u n leaf = option_and_then (λ e. entity_type (trees_of u) (entity_at (trees_of u) e)) (n leaf)

abbrev pub RowsAreRight : Type 0
RowsAreRight =
    (s : Source) (name : List ℕ) (u : Unit) (b : IsBuilt s name u)
    → ChildrenFirst s
    → ConstantsFit s
    → StatementGrammar s
    → AllElseFits (type_by u b.numbering) s b.senses → InRows (trees_of u)

-- the leaf of the parenthesis by which the object of a compound literal is known
abbrev pub parenthesis_of : Source → ℕ → ℕ
parenthesis_of s p =
    elim (first_where (has_sign s sign_left_parenthesis) (children_at s p)) [ None ↦ p | Some leaf ↦ leaf ]

-- node i is the list of the compound literal that is known by that leaf
abbrev pub is_list_of : Source → ℕ → ℕ → Bool
is_list_of s leaf i =
    is_a s p_items i
    && elim
    (parent_of s i)
    [ None ↦ false | Some p ↦ (is_a s p_cast p || is_a s p_unary p) && (parenthesis_of s p == leaf) ]

abbrev pub core_type_of : Sense → Option Ctype
core_type_of (IsCore c) = Some (ctype_of c)
core_type_of x = None

module _ (s : Source) (senses : List Sense) where
  abbrev pub literal_type : ℕ → Option Ctype
  literal_type leaf =
      option_and_then (λ i. core_type_of (sense_in senses i)) (first_where (is_list_of s leaf) (all_nodes s))

  -- the type of what a leaf declares, by the senses alone: of a name, or of the object of a compound literal
  abbrev pub types_declared : ℕ → Option Ctype
  types_declared leaf = if is_name s leaf then right.entity_type s senses leaf else literal_type leaf

abbrev pub RowsAreAsked : Type 0
RowsAreAsked =
    (s : Source) (name : List ℕ) (u : Unit) (b : IsBuilt s name u)
    → ChildrenFirst s
    → ConstantsFit s
    → StatementGrammar s
    → AskedElseFit (types_declared s b.senses) s b.senses → InRows (trees_of u)
