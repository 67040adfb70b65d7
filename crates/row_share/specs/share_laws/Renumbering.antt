-- A system with one row for all rows of a class.
use Rattle.std.specs.Prelude.{◌≡◌, ℕ, zero, suc, ◌+◌, ◌<◌, ◌≤◌, ◌==◌, ◌&&◌, nat_le, not, Bool, false, List, [], ◌∷◌}
use Rattle.std.specs.Prelude.{◌++◌, length, map, filter, slice_index_or, slice_index, if◌then◌else◌}
use Rattle.sol_model.specs.declared.system.System.{System}
use Rattle.sol_model.specs.declared.system.CallSite.{CallSite}
use Rattle.sol_model.specs.declared.system.Function.{Function}
use Rattle.sol_model.specs.declared.system.Constraint.{Constraint}
use Rattle.sol_model.specs.declared.system.Constraint.TheVariants.{Address, Copy, Load, Store, Field, Contents}
use Rattle.sol_model.specs.declared.system.Constraint.TheVariants.{Call}
use Rattle.sol_model.specs.Systems.{IsRow, location_count}

-- the new number of a row; past the end, its own
abbrev pub new_row : List ℕ → ℕ → ℕ
new_row row old = slice_index_or row old old

-- with new numbers for rows: a constraint, a call, a function
abbrev pub renumbered : (ℕ → ℕ) → Constraint → Constraint
renumbered new (Address to location) = Address (new to) location
renumbered new (Copy from to) = Copy (new from) (new to)
renumbered new (Load pointer to ty sub) = Load (new pointer) (new to) ty sub
renumbered new (Store pointer from ty sub) = Store (new pointer) (new from) ty sub
renumbered new (Field from to ty member) = Field (new from) (new to) ty member
renumbered new (Contents to from) = Contents (new to) (new from)
renumbered new (Call number) = Call number

abbrev pub renumbered_call : (ℕ → ℕ) → CallSite → CallSite
renumbered_call new call =
    record call { callee = new call.callee; arguments = map (map new) call.arguments; result = map new call.result }

abbrev pub renumbered_function : (ℕ → ℕ) → Function → Function
renumbered_function new function =
    record function { parameters = map (map new) function.parameters; result = map new function.result }

-- a copy from a row to itself
abbrev pub is_idle : Constraint → Bool
is_idle (Copy from to) = from == to
is_idle _ = false

-- copies both ways between a location's row and its representative, where that is another one
abbrev pub twins_of : ℕ → ℕ → List Constraint
twins_of location representative =
    if representative == location then [] else (Copy location representative ∷ Copy representative location ∷ [])

-- those of the first so many locations
abbrev pub twins : List ℕ → ℕ → List Constraint
twins of zero = []
twins of (suc n) = twins of n ++ twins_of n (slice_index of n)

-- the row is no location's, and its own representative
abbrev pub is_own : ℕ → List ℕ → ℕ → Bool
is_own locations of row = nat_le locations row && (slice_index of row == row)

-- how many such rows there are below a row
abbrev pub own_below : ℕ → List ℕ → ℕ → ℕ
own_below locations of zero = 0
own_below locations of (suc row) = own_below locations of row + (if is_own locations of row then 1 else 0)

-- locations keep their rows; then come the other rows that are their own representatives, in order; any other row
-- has the new number of its representative
pub record AreNumbers (S : System) (of row : List ℕ) : Type 0 where
  pub count : length row ≡ S.rows
  pub locations : (old : ℕ) → old < location_count S → new_row row old ≡ old
  pub own : (old : ℕ)
      → IsRow S old
      → location_count S ≤ old
      → slice_index of old ≡ old
      → new_row row old ≡ location_count S + own_below (location_count S) of old
  pub others : (old : ℕ) → IsRow S old → location_count S ≤ old → new_row row old ≡ new_row row (slice_index of old)

-- the system with one row for all of a class, where `of` has the representatives and `row` the new numbers
pub record IsReduced (S : System) (of row : List ℕ) (T : System) : Type 0 where
  pub numbers : AreNumbers S of row
  pub rows : T.rows ≡ location_count S + own_below (location_count S) of S.rows
  pub locations : T.locations ≡ S.locations
  pub types : T.types ≡ S.types
  pub constraints : T.constraints
      ≡ filter (λ constraint. not (is_idle constraint)) (map (renumbered (new_row row)) S.constraints)
      ++ twins of (location_count S)
  pub calls : T.calls ≡ map (renumbered_call (new_row row)) S.calls
  pub functions : T.functions ≡ map (renumbered_function (new_row row)) S.functions
