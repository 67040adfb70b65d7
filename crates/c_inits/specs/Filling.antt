-- What a call did to a list of actions.
use Rattle.std.specs.Prelude.{ℕ, ◌≡◌, List, [], ◌∷◌, ◌++◌, map, Option, Some, None}
use Rattle.c_inits.specs.Shapes.{Path, Shape, Elements}
use Rattle.c_inits.specs.Initial.{Outcome, Places, NoPlace, Action, Puts, acts_under}

-- the outcome's actions were put behind the others, at that path; or the node that has no place was given
abbrev pub Gives : Outcome → Path → List Action → List Action → Option ℕ → Type 0
Gives outcome path old new None =
    (actions : List Action) × (outcome ≡ Places actions) × (new ≡ old ++ map (acts_under path) actions)
Gives outcome path old new (Some bad) = outcome ≡ NoPlace bad

-- an expression for the whole of an object
abbrev pub whole_put : ℕ → List Action
whole_put node = Puts (record { path = []; node = node; character = None }) ∷ []

-- how many elements an array has
abbrev pub elements_in : Shape → Option ℕ
elements_in (Elements type of length) = Some length
elements_in s = None
