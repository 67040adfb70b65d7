-- What an initialiser gives an object of a type.
use Rattle.std.specs.Prelude.{ℕ, ◌≡◌, List, [], Option, Some, None, map, if◌then◌else◌}
use Rattle.c_types.specs.Trees.{Ctype}
use Rattle.c_inits.specs.Shapes.{Shape}
use Rattle.c_inits.specs.Syntax.{Init, init_node}
use Rattle.c_inits.specs.Initial.{Outcome, Places, NoPlace, Action, initial, lasting, length_given}
use Rattle.c_inits.specs.Items.{placed_of}
use Rattle.c_inits.specs.Tables.{lacks_length}
use Rattle.c_initialise.specs.declared.c_braces.items.Initialised.{Initialised}

-- what the initialiser does; an object whose type has no shape has no place for it
abbrev pub outcome_for : Option Shape → Init → Outcome
outcome_for None init = NoPlace (init_node init)
outcome_for (Some shape) init = initial shape init

-- an array without a length gets one
abbrev pub new_length : Ctype → List Action → Option ℕ
new_length t actions = if lacks_length t then Some (length_given actions) else None

-- the items that last, and the length
abbrev pub IsGiven : Ctype → Outcome → Initialised → Type 0
IsGiven t outcome made =
    (actions : List Action) × (outcome ≡ Places actions)
    × (map placed_of made.items.items ≡ lasting [] actions)
    × (made.length ≡ new_length t actions)
