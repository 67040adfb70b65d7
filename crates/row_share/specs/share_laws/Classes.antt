-- Rows that have equal sets in the least solution, as the copies of a system alone show it.
use Rattle.std.specs.Prelude.{◌≡◌, ℕ, ◌≤◌, ◌==◌, Bool, false, IsTrue, List, [], ◌∷◌, length, filter, Contains}
use Rattle.std.specs.Prelude.{slice_index}
use Rattle.sol_model.specs.declared.system.System.{System}
use Rattle.sol_model.specs.declared.system.CallSite.{CallSite}
use Rattle.sol_model.specs.declared.system.Function.{Function}
use Rattle.sol_model.specs.declared.system.Constraint.{Constraint}
use Rattle.sol_model.specs.declared.system.Constraint.TheVariants.{Address, Copy, Load, Store, Field, Contents}
use Rattle.sol_model.specs.declared.system.Constraint.TheVariants.{Call}
use Rattle.sol_model.specs.Systems.{IsRow, location_count}

-- the constraint can add to the row by itself
abbrev pub adds_to : ℕ → Constraint → Bool
adds_to row (Address to location) = to == row
adds_to row (Copy from to) = to == row
adds_to row (Load pointer to ty sub) = to == row
adds_to row (Store pointer from ty sub) = false
adds_to row (Field from to ty member) = to == row
adds_to row (Contents to from) = false
adds_to row (Call number) = false

-- the constraints that can add to the row by themselves
abbrev pub adding : ℕ → List Constraint → List Constraint
adding row constraints = filter (adds_to row) constraints

-- some call's result has the row
abbrev pub IsInResult : List CallSite → ℕ → Type 0
IsInResult calls row = (call : CallSite) × Contains calls call × Contains call.result row

-- some function's parameters have the row
abbrev pub IsInParameter : List Function → ℕ → Type 0
IsInParameter functions row =
    (function : Function) × (rows : List ℕ) × Contains functions function × Contains function.parameters rows
    × Contains rows row

-- the row gets all that it has from one copy: no location's row, in no call's result and in no function's
-- parameters, and of the constraints exactly one can add to it by itself, which is that copy
pub record Follows (S : System) (row from : ℕ) : Type 0 where
  pub inner : location_count S ≤ row
  pub alone : adding row S.constraints ≡ Copy from row ∷ []
  pub no_result : IsInResult S.calls row → ⊥
  pub no_parameter : IsInParameter S.functions row → ⊥

abbrev pub IsCopy : System → ℕ → ℕ → Type 0
IsCopy S from to = Contains S.constraints (Copy from to)

-- copies don't lead out of the set of rows
abbrev pub IsKept : System → (ℕ → Bool) → Type 0
IsKept S set = (from to : ℕ) → IsCopy S from to → IsTrue (set from) → IsTrue (set to)

-- copies lead from one row to the other: each set of rows that they don't lead out of and that has the one has the
-- other
abbrev pub Reaches : System → ℕ → ℕ → Type 0
Reaches S a b = (set : ℕ → Bool) → IsKept S set → IsTrue (set a) → IsTrue (set b)

-- the set of rows divides no row from the one that it follows, and no two rows that reach each other
pub record IsUndivided (S : System) (set : ℕ → Bool) : Type 0 where
  pub followed : (row from : ℕ) → Follows S row from → set row ≡ set from
  pub cycles : (a b : ℕ) → Reaches S a b → Reaches S b a → set a ≡ set b

-- two rows are in one class, by the least equivalence in which each row is with the one that it follows, and rows
-- that reach each other are together: no undivided set has one of them alone
abbrev pub AreTogether : System → ℕ → ℕ → Type 0
AreTogether S a b = (set : ℕ → Bool) → IsUndivided S set → set a ≡ set b

-- the smallest row of a row's class
pub record IsSmallest (S : System) (row least : ℕ) : Type 0 where
  pub known : IsRow S least
  pub together : AreTogether S row least
  pub smallest : (other : ℕ) → IsRow S other → AreTogether S row other → least ≤ other

-- for each row the smallest row of its class
pub record AreClasses (S : System) (of : List ℕ) : Type 0 where
  pub count : length of ≡ S.rows
  pub classes : (row : ℕ) → IsRow S row → IsSmallest S row (slice_index of row)
