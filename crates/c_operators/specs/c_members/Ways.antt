-- What a way to a member is, whatever search finds it (C11 6.7.2.1p13): the members of an unnamed structure or
-- union are members of the one that contains it.
use Rattle.std.specs.Prelude.{◌≡◌, ℕ, suc, ◌≤◌, true, List, [], ◌∷◌, length, Some, None, IsSome, slice_get}
use Rattle.c_types.specs.Trees.{Ctype}
use Rattle.c_types.specs.Table.{Table}
use Rattle.c_types.specs.Made.{IsMade, AreNamed}
use Rattle.c_inits.specs.Made.{Part}
use Rattle.c_senses.specs.World.{World, members_of, has_name, way_to}
use Rattle.c_operators.specs.c_members.Worlds.{IsWorldOf}

-- the position of a member of that name; or that of an unnamed member, and a way from its type
pub data IsWay (w : World) (name : List ℕ) : Ctype → List ℕ → Type 0 where
  own : {t : Ctype} {ms : List Part} {k : ℕ} {m : Part}
      → members_of w t ≡ Some ms
      → slice_get ms k ≡ Some m
      → has_name name m.name ≡ true
      → IsWay w name t (k ∷ [])
  inner : {t : Ctype} {ms : List Part} {k : ℕ} {m : Part} {way : List ℕ}
      → members_of w t ≡ Some ms
      → slice_get ms k ≡ Some m
      → m.name ≡ None
      → IsWay w name m.type way
      → IsWay w name t (k ∷ way)

-- what is found is a way
abbrev pub WaysAreWays : Type 0
WaysAreWays =
    (w : World) (name : List ℕ) (t : Ctype) (way : List ℕ) → way_to w name t ≡ Some way → IsWay w name t way

-- where there is a way of no more levels than there are tags, and one, one is found
abbrev pub WaysAreFound : Type 0
WaysAreFound =
    (w : World) (name : List ℕ) (t : Ctype) (way : List ℕ)
    → IsWay w name t way
    → length way ≤ suc w.tags
    → IsSome (way_to w name t)

-- in the world of a table unnamed members nest no deeper than there are tags, so one is found wherever there is a
-- way
abbrev pub TableWaysAreFound : Type 0
TableWaysAreFound =
    (table : Table) (w : World) (name : List ℕ) (t : Ctype) (way : List ℕ)
    → IsMade table
    → AreNamed table
    → IsWorldOf w table
    → IsWay w name t way
    → (length way ≤ suc w.tags) × IsSome (way_to w name t)
