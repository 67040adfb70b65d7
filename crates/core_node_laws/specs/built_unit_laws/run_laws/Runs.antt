-- What declarations run, over the senses of some nodes.
use Rattle.std.specs.Prelude.{ℕ, ◌≡◌, ◌<◌, true, take, length, List}
use Rattle.c_grammar.specs.Productions.{p_declaration}
use Rattle.c_senses.specs.Tree.{Source, is_a}
use Rattle.c_senses.specs.Statements.{objects_declared}
use Rattle.c_senses.specs.Sense.{Sense, sense_in}
use Rattle.c_senses.specs.Rows.{AreSenses, world_at}
use Rattle.core_node_laws.specs.standing_laws.PassedOn.{RunsIn}
use Rattle.core_node_laws.specs.standing_laws.Standing.{IsGrown}
use Rattle.core_node_laws.specs.passed.parsed_tree_laws.grown_parts.Parts.{IsBrought}

abbrev pub DeclarationsRun : Type 0
DeclarationsRun =
    (s : Source) (senses : List Sense) → AreSenses s senses → IsGrown s → IsBrought s
    → (i : ℕ) → i < length senses → (d : ℕ) → is_a s p_declaration d ≡ true
    → RunsIn (objects_declared (world_at s (take i senses) i) s (sense_in (take i senses)) d)
    (sense_in (take i senses) d)
