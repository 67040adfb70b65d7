-- What the row of a compound literal's list asks.
use Rattle.std.specs.Prelude.{ℕ, ◌≡◌, ◌<◌, true, ◌||◌, take, length, List, Some}
use Rattle.c_types.specs.Trees.{Ctype}
use Rattle.c_grammar.specs.Productions.{p_type_name, p_items, p_cast, p_unary}
use Rattle.c_inits.specs.Made.{shape_for}
use Rattle.c_inits.specs.View as view
use Rattle.c_senses.specs.Tree.{Source, is_a, child_of, parent_of}
use Rattle.c_senses.specs.Initialised.{most_elements, seen, outcome_of, opening, brace, braced}
use Rattle.c_senses.specs.Sense.{Sense, IsType, sense_in}
use Rattle.c_senses.specs.Rows.{AreSenses, world_at}
use Rattle.c_initialise.specs.passed.sense_laws.Sound.{Gives}
use Rattle.c_initialise.specs.passed.sense_laws.Asked.{OutcomeStands}
use Rattle.core_node_laws.specs.built_unit_laws.run_laws.PassedOn.{IsGrown}
use Rattle.core_node_laws.specs.passed.parsed_tree_laws.grown_parts.Parts.{IsBrought}
use Rattle.core_node_laws.specs.built_unit_laws.built_rows.Rows.{types_declared}

abbrev pub LiteralsFit : Type 0
LiteralsFit =
    (s : Source) (senses : List Sense) → AreSenses s senses → IsGrown s → IsBrought s
    → (i : ℕ)
    → i < length senses
    → (p name : ℕ) (t : Ctype)
    → is_a s p_items i ≡ true
    → parent_of s i ≡ Some p
    → (is_a s p_cast p || is_a s p_unary p) ≡ true
    → child_of s p_type_name p ≡ Some name → sense_in (take i senses) name ≡ IsType t
    → Gives
    (OutcomeStands (world_at s (take i senses) i) (types_declared s senses) s (sense_in (take i senses))
    (opening (world_at s (take i senses) i) s (sense_in (take i senses)) p) t)
    (outcome_of (world_at s (take i senses) i) s (sense_in (take i senses))
    (brace (world_at s (take i senses) i) s (sense_in (take i senses)) p)
    (shape_for (world_at s (take i senses) i).fillable most_elements t)
    (braced (world_at s (take i senses) i) s (sense_in (take i senses))
    (brace (world_at s (take i senses) i) s (sense_in (take i senses)) p)
    (view.items_at (seen (world_at s (take i senses) i) s (sense_in (take i senses))) s.nodes i)))
