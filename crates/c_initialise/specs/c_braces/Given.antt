-- What an item of a braced list did to a list of actions.
use Rattle.std.specs.Prelude.{ℕ, ◌≡◌, List, ◌++◌, map, cond, ◌&&◌, Option, Some, None}
use Rattle.c_inits.specs.Shapes.{Path, Shape}
use Rattle.c_inits.specs.Initial.{Outcome, NoPlace, Action, acts_under, Start, at_start, and_rest, is_scalar}
use Rattle.c_inits.specs.Initial.{is_braced, initial}
use Rattle.c_inits.specs.Syntax.{Init, init_node}

-- what a list gives an item's initialiser: within a scalar's braces no braces stand
abbrev pub within_list : Shape → Init → Shape → Outcome
within_list t init s = cond (is_scalar t && is_braced init) (NoPlace (init_node init)) (initial s init)

-- an item's own actions were put, and the list goes on behind its place; or the node that has no place was given
abbrev pub ItemGives : Shape → Start → Init → (after path : Path) → List Action → List Action → Option ℕ → Type 0
ItemGives t start init after path old new None =
    (actions : List Action)
    × ((rest : Path → Outcome) → at_start start init (within_list t init) rest ≡ and_rest actions (rest after))
    × (new ≡ old ++ map (acts_under path) actions)
ItemGives t start init after path old new (Some bad) =
    (rest : Path → Outcome) → at_start start init (within_list t init) rest ≡ NoPlace bad
