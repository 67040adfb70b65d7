-- Which tags some specifier of a unit completes.
use Rattle.std.specs.Prelude.{ℕ, ◌≡◌, Bool, false, ◌&&◌, ◌||◌, not, List, get_or}
use Rattle.c_named.specs.declared.completeness.Completion.{Completion}
use Rattle.c_senses.specs.Tree.{Source}
use Rattle.c_senses.specs.World.{World}
use Rattle.c_senses.specs.Sense.{Sense}
use Rattle.c_senses.specs.Entities.{is_completed_somewhere}

-- the flags of tags, by number
abbrev pub AreCompleted : World → Source → (ℕ → Sense) → List Bool → Type 0
AreCompleted w s sense flags = (tag : ℕ) → is_completed_somewhere w s sense tag ≡ get_or flags tag false

-- a typedef name and a function need no size; an object has one, or gets one from its initialiser, from a later
-- declaration of its name or with the unit's end, or it is only declared
abbrev pub is_enough : Completion → Bool
is_enough a =
    a.is_typedef
    || (a.is_function
    || (a.sized
    || ((a.element_sized && (a.initialised || a.is_linked))
    || (a.later || (a.may_stay && (a.is_extern && not a.initialised))))))
