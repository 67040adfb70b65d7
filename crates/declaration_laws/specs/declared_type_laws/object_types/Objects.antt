-- The type of an object at its initialiser. An array without a length has the length that was seen of its name (C11
-- 6.2.7p4).
use Rattle.std.specs.Prelude.{ℕ, ◌≡◌, ◌<◌, true, false, take, length, List, Some, ◌⊎◌}
use Rattle.c_types.specs.Trees.{Ctype}
use Rattle.c_grammar.specs.Productions.{p_rest, p_init}
use Rattle.c_inits.specs.Made.{shape_for}
use Rattle.c_inits.specs.Initial.{Action, Places}
use Rattle.c_inits.specs.View as view
use Rattle.c_senses.specs.Tree.{Source, is_a, parent_of}
use Rattle.c_senses.specs.Given.{Fits}
use Rattle.c_senses.specs.Limits.{lacks_a_length}
use Rattle.c_senses.specs.Entities.{with_length, length_seen, entity_of, specified_of, derived_type}
use Rattle.c_senses.specs.Entities.{initialised_by, initialiser_for, is_internal}
use Rattle.c_senses.specs.Initialised.{new_length, most_elements, seen, outcome_of, name_of_declarator}
use Rattle.c_senses.specs.Sense.{Sense, sense_in}
use Rattle.c_senses.specs.Rows.{AreSenses, world_at}
use Rattle.core_node_laws.proofs.count_laws.passed.parsed_tree_laws.placed_laws.Climbing.{Grown}
use Rattle.core_node_laws.specs.built_unit_laws.passed.core_node_laws.standing_laws.Standing.{IsGrown}
use Rattle.core_node_laws.specs.count_laws.passed.parsed_tree_laws.grown_parts.Parts.{IsBrought}
use Rattle.declaration_laws.specs.declared_type_laws.plain_names.PassedOn.{types_declared}

abbrev pub ObjectsTyped : Type 0
ObjectsTyped =
    (s : Source) (senses : List Sense) → AreSenses s senses → IsGrown s → Grown s → IsBrought s
    → (i : ℕ)
    → i < length senses
    → (p declarator leaf : ℕ) (t : Ctype) (actions : List Action)
    → is_a s p_init i ≡ true
    → parent_of s i ≡ Some p
    → is_a s p_rest p ≡ true
    → initialised_by s (sense_in (take i senses)) i ≡ Some declarator
    → name_of_declarator (world_at s (take i senses) i) s (sense_in (take i senses))
    (sense_in (take i senses) declarator)
    ≡ Some leaf
    → derived_type s (sense_in (take i senses)) (specified_of s (sense_in (take i senses)) leaf)
    (Some declarator)
    ≡ Some t
    → outcome_of (world_at s (take i senses) i) s (sense_in (take i senses)) i
    (shape_for (world_at s (take i senses) i).fillable most_elements
    (with_length (length_seen s (sense_in (take i senses)) leaf) t))
    (view.init_at (seen (world_at s (take i senses) i) s (sense_in (take i senses))) s.nodes i)
    ≡ Fits (Places actions)
    → is_internal s (sense_in senses) leaf ≡ false
    → (lacks_a_length t ≡ false) ⊎ (initialiser_for s (sense_in senses) leaf ≡ Some i)
    → types_declared s senses (entity_of s (sense_in (take i senses)) leaf)
    ≡ Some
    (with_length
    (new_length (world_at s (take i senses) i) s (sense_in (take i senses))
    (with_length (length_seen s (sense_in (take i senses)) leaf) t) actions)
    (with_length (length_seen s (sense_in (take i senses)) leaf) t))
