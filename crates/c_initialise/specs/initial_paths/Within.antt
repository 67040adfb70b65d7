-- Where the values of an initialiser go in an object, in the world that is seen at a node.
use Rattle.std.specs.Prelude.{ℕ, ⊤, List, [], Option}
use Rattle.c_types.specs.Trees.{Ctype}
use Rattle.c_inits.specs.Made.{shape_for}
use Rattle.c_inits.specs.Syntax.{Init}
use Rattle.c_inits.specs.Initial.{Outcome, Places, NoPlace, lasting}
use Rattle.c_senses.specs.Tree.{Source}
use Rattle.c_senses.specs.World.{World}
use Rattle.c_senses.specs.Entities.{with_length}
use Rattle.c_senses.specs.Initialised.{new_length, most_elements, outcome_of}
use Rattle.c_senses.specs.Sense.{Sense}
use Rattle.c_senses.specs.Rows.{world_at}
use Rattle.parsed_tree_laws.specs.sense_laws.Sound.{Gives}
use Rattle.parsed_tree_laws.specs.sense_laws.Asked.{AllStand}

-- all that lasts goes to parts of an object of type t, with the length that the initialiser gives it
abbrev pub PathsStand : World → Source → (ℕ → Sense) → Ctype → Outcome → Type 0
PathsStand w s sense t (NoPlace node) = ⊤
PathsStand w s sense t (Places actions) =
    AllStand w (with_length (new_length w s sense t actions) t) (lasting [] actions)

abbrev pub InitialsWithin : Type 0
InitialsWithin =
    (s : Source) (senses : List Sense) (n : ℕ) (sense : ℕ → Sense) (at : ℕ) (t : Ctype) (init : Option Init)
    → Gives (PathsStand (world_at s senses n) s sense t)
    (outcome_of (world_at s senses n) s sense at
    (shape_for (world_at s senses n).fillable most_elements t) init)
