-- What external names mean.
use Rattle.std.specs.Prelude.{ℕ, ◌≡◌, ◌<◌, true, false, take, length, List, Some}
use Rattle.c_grammar.specs.Productions.{p_primary}
use Rattle.c_grammar.specs.Terminals.{contains}
use Rattle.c_senses.specs.Tree.{Source, is_a, children_at, paired}
use Rattle.c_senses.specs.World.{Meaning}
use Rattle.c_senses.specs.Entities.{is_linked, is_internal, has_earlier_length}
use Rattle.c_senses.specs.Sense.{Sense, sense_in}
use Rattle.c_senses.specs.Rows.{AreSenses, world_at}
use Rattle.parsed_tree_laws.specs.sense_laws.Sound.{MeaningFits}
use Rattle.core_node_laws.proofs.count_laws.passed.parsed_tree_laws.placed_laws.Climbing.{Grown}
use Rattle.core_node_laws.specs.built_unit_laws.run_laws.PassedOn.{IsGrown}
use Rattle.core_node_laws.specs.count_laws.passed.parsed_tree_laws.grown_parts.Parts.{IsBrought}
use Rattle.declaration_laws.specs.name_order.Order.{IsOrdered}
use Rattle.core_node_laws.specs.built_unit_laws.built_rows.Rows.{types_declared}

abbrev pub ExternalNamesFit : Type 0
ExternalNamesFit =
    (s : Source) (senses : List Sense) → AreSenses s senses → IsGrown s → Grown s → IsBrought s → IsOrdered s
    → (i first x : ℕ) (m : Meaning)
    → i < length senses
    → is_a s p_primary i ≡ true
    → contains (children_at s i) first ≡ true
    → paired s.uses first ≡ Some x
    → is_linked s (sense_in senses) x ≡ true
    → is_internal s (sense_in senses) x ≡ false
    → has_earlier_length s (sense_in (take i senses)) x ≡ false
    → (world_at s (take i senses) i).meaning first ≡ Some m → MeaningFits (types_declared s senses) m
