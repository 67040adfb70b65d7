-- The type of an internal name, by the leaves of its declarations.
use Rattle.std.specs.Prelude.{ℕ, List, Option, Some, None, option_map, if◌then◌else◌}
use Rattle.c_types.specs.Trees.{Ctype}
use Rattle.c_senses.specs.Tree.{Source}
use Rattle.c_senses.specs.Sense.{Sense}
use Rattle.c_senses.specs.Entities.{is_defined, own_type, all_together, with_length}
use Rattle.c_named.specs.Lists.{types_at}

-- that of the function which is defined there, else that of all, where an array without a length gets one element
abbrev pub type_of_internal : Source → (ℕ → Sense) → ℕ → List ℕ → Option Ctype
type_of_internal s sense at list =
    if is_defined s sense at then own_type s sense at
    else option_map (with_length (Some 1)) (all_together None (types_at s sense list))
