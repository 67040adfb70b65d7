-- The types of the entities of internal names (C11 6.2.7, 6.7.9, 6.9.2).
use Rattle.std.specs.Prelude.{ℕ, ◌≡◌, ◌<◌, ◌⊎◌, true, take, length, slice_get, List, Some, None}
use Rattle.c_lexer.specs.declared.Tokens.{Tokens}
use Rattle.c_lexer.specs.Cut.{IsTokens}
use Rattle.c_types.specs.Trees.{Ctype}
use Rattle.c_grammar.specs.declared.trees.Tree.{Tree}
use Rattle.c_grammar.specs.Productions.{p_rest, p_init}
use Rattle.c_parser.specs.c_units.Units.{IsUnit}
use Rattle.c_inits.specs.Made.{shape_for}
use Rattle.c_inits.specs.Initial.{Action, Places}
use Rattle.c_inits.specs.View as view
use Rattle.c_senses.specs.Tree.{Source, is_a, parent_of}
use Rattle.c_senses.specs.Names.{source_of, numbered}
use Rattle.c_senses.specs.Given.{Fits}
use Rattle.c_senses.specs.Limits.{is_function_type}
use Rattle.c_senses.specs.Entities.{with_length, length_seen, entity_of, specified_of, derived_type, initialised_by}
use Rattle.c_senses.specs.Entities.{is_internal, types_of, all_together}
use Rattle.c_senses.specs.Initialised.{new_length, most_elements, seen, outcome_of, name_of_declarator}
use Rattle.c_senses.specs.Right.{of_internal, with_one}
use Rattle.c_senses.specs.Sense.{Sense, sense_in}
use Rattle.c_senses.specs.Rows.{AreSenses, world_at}
use Rattle.declaration_laws.specs.declared_type_laws.passed.built_unit_laws.built_rows.Rows.{types_declared}

-- all declarations of an internal name give a type together; its entity has that type, or the function type of one
-- of them
pub record IsEntityType (s : Source) (senses : List Sense) (leaf : ℕ) : Type 0 where
  pub whole : Ctype
  pub all : all_together None (types_of s (sense_in senses) (of_internal s senses leaf)) ≡ Some whole
  pub type : Ctype
  pub declared : types_declared s senses (entity_of s (sense_in senses) leaf) ≡ Some type
  pub which : (type ≡ with_one s senses whole)
      ⊎ ((k : ℕ) × (slice_get (types_of s (sense_in senses) (of_internal s senses leaf)) k ≡ Some type)
      × (is_function_type type ≡ true))

-- so it is in each unit that is read, whose rows all fit
abbrev pub EntityTypesKnown : Type 0
EntityTypesKnown =
    (tokens : Tokens) (unit : ℕ) (tree : Tree) (tag_number : ℕ → ℕ) (senses : List Sense)
    → IsTokens tokens.text.now tokens.list.items
    → IsUnit tokens unit tree
    → AreSenses (numbered tag_number (source_of tokens tree)) senses
    → length senses ≡ length (numbered tag_number (source_of tokens tree)).nodes
    → (leaf : ℕ)
    → is_internal (numbered tag_number (source_of tokens tree)) (sense_in senses) leaf ≡ true
    → IsEntityType (numbered tag_number (source_of tokens tree)) senses leaf

-- the entity of an internal object that is initialised has the type that its declarator and its initialiser give it
abbrev pub AreInitialised : Source → List Sense → Type 0
AreInitialised s senses =
    (i : ℕ)
    → i < length senses
    → (p declarator leaf : ℕ) (t : Ctype) (actions : List Action)
    → is_a s p_init i ≡ true
    → parent_of s i ≡ Some p
    → is_a s p_rest p ≡ true
    → initialised_by s (sense_in (take i senses)) i ≡ Some declarator
    → name_of_declarator (world_at s (take i senses) i) s (sense_in (take i senses))
    (sense_in (take i senses) declarator)
    ≡ Some leaf
    → derived_type s (sense_in (take i senses)) (specified_of s (sense_in (take i senses)) leaf)
    (Some declarator)
    ≡ Some t
    → outcome_of (world_at s (take i senses) i) s (sense_in (take i senses)) i
    (shape_for (world_at s (take i senses) i).fillable most_elements
    (with_length (length_seen s (sense_in (take i senses)) leaf) t))
    (view.init_at (seen (world_at s (take i senses) i) s (sense_in (take i senses))) s.nodes i)
    ≡ Fits (Places actions)
    → is_internal s (sense_in senses) leaf ≡ true
    → types_declared s senses (entity_of s (sense_in (take i senses)) leaf)
    ≡ Some
    (with_length
    (new_length (world_at s (take i senses) i) s (sense_in (take i senses))
    (with_length (length_seen s (sense_in (take i senses)) leaf) t) actions)
    (with_length (length_seen s (sense_in (take i senses)) leaf) t))

abbrev pub InitialisedInternals : Type 0
InitialisedInternals =
    (tokens : Tokens) (unit : ℕ) (tree : Tree) (tag_number : ℕ → ℕ) (senses : List Sense)
    → IsTokens tokens.text.now tokens.list.items
    → IsUnit tokens unit tree
    → AreSenses (numbered tag_number (source_of tokens tree)) senses
    → length senses ≡ length (numbered tag_number (source_of tokens tree)).nodes
    → AreInitialised (numbered tag_number (source_of tokens tree)) senses
