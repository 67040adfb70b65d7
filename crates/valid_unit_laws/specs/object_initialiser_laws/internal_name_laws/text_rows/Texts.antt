-- What is left to ask of the types of names where nodes are to stand in their rows.
use Rattle.std.specs.Prelude.{ℕ, ◌≡◌, ◌<◌, true, take, length, List, Some}
use Rattle.c_lexer.specs.declared.Tokens.{Tokens}
use Rattle.c_lexer.specs.Cut.{IsTokens}
use Rattle.c_types.specs.Trees.{Ctype}
use Rattle.core_tree.specs.declared.node.Unit.{Unit}
use Rattle.core_tree.specs.Typed.{trees_of}
use Rattle.core_tree.specs.Valid.{InRows}
use Rattle.c_grammar.specs.declared.trees.Tree.{Tree}
use Rattle.c_grammar.specs.Productions.{p_rest, p_init, p_primary}
use Rattle.c_parser.specs.c_units.Units.{IsUnit}
use Rattle.c_inits.specs.Made.{shape_for}
use Rattle.c_inits.specs.Initial.{Action, Places}
use Rattle.c_inits.specs.View as view
use Rattle.c_senses.specs.Tree.{Source, is_a, children_at, parent_of}
use Rattle.c_senses.specs.Names.{source_of, numbered}
use Rattle.c_senses.specs.Given.{Fits}
use Rattle.c_senses.specs.Entities.{with_length, length_seen, entity_of, specified_of, derived_type, initialised_by}
use Rattle.c_senses.specs.Initialised.{new_length, most_elements, seen, outcome_of, name_of_declarator}
use Rattle.c_senses.specs.Sense.{Sense, sense_in}
use Rattle.c_senses.specs.Rows.{world_at}
use Rattle.parsed_tree_laws.specs.sense_laws.Asked.{FirstFits}
use Rattle.parsed_tree_laws.specs.sense_laws.Sound.{FurtherIsVariadic}
use Rattle.declaration_laws.specs.declared_type_laws.passed.built_unit_laws.built_units.Built.{IsBuilt}
use Rattle.declaration_laws.specs.declared_type_laws.passed.built_unit_laws.literal_types.PassedOn.{types_declared}

-- the type that a name means at a primary agrees with its entity's, a function whose last parameter is found there is
-- variadic, and an object that is initialised has the type of its declarator, with the length that was seen of its
-- name before (6.2.7p4), or else the initialiser gives it
pub record TypesFit (s : Source) (senses : List Sense) : Type 0 where
  pub names : (i : ℕ)
      → i < length senses
      → is_a s p_primary i ≡ true
      → FirstFits (world_at s (take i senses) i) (types_declared s senses) (children_at s i)
  pub further : (i : ℕ)
      → i < length senses
      → is_a s p_primary i ≡ true
      → FurtherIsVariadic (world_at s (take i senses) i) (types_declared s senses)
  pub objects : (i : ℕ)
      → i < length senses
      → (p declarator leaf : ℕ) (t : Ctype) (actions : List Action)
      → is_a s p_init i ≡ true
      → parent_of s i ≡ Some p
      → is_a s p_rest p ≡ true
      → initialised_by s (sense_in (take i senses)) i ≡ Some declarator
      → name_of_declarator (world_at s (take i senses) i) s (sense_in (take i senses))
      (sense_in (take i senses) declarator)
      ≡ Some leaf
      → derived_type s (sense_in (take i senses)) (specified_of s (sense_in (take i senses)) leaf)
      (Some declarator)
      ≡ Some t
      → outcome_of (world_at s (take i senses) i) s (sense_in (take i senses)) i
      (shape_for (world_at s (take i senses) i).fillable most_elements
      (with_length (length_seen s (sense_in (take i senses)) leaf) t))
      (view.init_at (seen (world_at s (take i senses) i) s (sense_in (take i senses))) s.nodes i)
      ≡ Fits (Places actions)
      → types_declared s senses (entity_of s (sense_in (take i senses)) leaf)
      ≡ Some
      (with_length
      (new_length (world_at s (take i senses) i) s (sense_in (take i senses))
      (with_length (length_seen s (sense_in (take i senses)) leaf) t) actions)
      (with_length (length_seen s (sense_in (take i senses)) leaf) t))

abbrev pub RowsOfTexts : Type 0
RowsOfTexts =
    (tokens : Tokens) (unit : ℕ) (tree : Tree) (tag_number : ℕ → ℕ) (name : List ℕ) (u : Unit)
    → IsTokens tokens.text.now tokens.list.items
    → IsUnit tokens unit tree
    → (b : IsBuilt (numbered tag_number (source_of tokens tree)) name u)
    → TypesFit (numbered tag_number (source_of tokens tree)) b.senses
    → InRows (trees_of u)
