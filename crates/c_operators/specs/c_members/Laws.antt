-- How the rows of members ask of types alone.
use Rattle.std.specs.Prelude.{ℕ, ◌≡◌}
use Rattle.pta_base.specs.declared.place.Place.{Place}
use Rattle.c_inits.specs.Made.{Part}
use Rattle.c_consts.specs.Core.{Core, core_sort}
use Rattle.c_senses.specs.Objects.{is_place_sort, member_node, member_step}
use Rattle.c_operators.specs.c_members.Steps.{member_refusal, unless_refused}

-- one step to a member is refused by its type alone, and by whether it is a member of a place
abbrev pub StepsAskTypes : Type 0
StepsAskTypes =
    (place : Place) (at : ℕ) (c : Core) (k : ℕ) (m : Part)
    → member_step place at c k m
    ≡ unless_refused (member_refusal m.type (is_place_sort (core_sort c))) at
    (member_node place k c m.type (core_sort c))
