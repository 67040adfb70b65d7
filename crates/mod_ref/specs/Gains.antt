-- Rows that gain facts.
use Rattle.std.specs.Prelude.{◌≡◌, ◌⊎◌, ℕ, ◌*◌, IsSome, Some, length, slice_get}
use Rattle.sol_model.specs.declared.system.System.{System}
use Rattle.sol_model.specs.declared.system.CallSite.{CallSite}
use Rattle.sol_model.specs.declared.system.Function.{Function}
use Rattle.obj_space.specs.View.{SpaceView}
use Rattle.mod_ref.specs.declared.access.Access.{Access}
use Rattle.mod_ref.specs.Direct.{IsMade, IsWrite}
use Rattle.sol_model.specs.declared.rows.Rows.{Rows}
use Rattle.sol_model.specs.Families.{Has, IsInside, members}
use Rattle.sol_model.specs.Systems.{width_of}

-- the rows have the facts of a relation too, and no others
pub record Gains (old new : Rows) (Fact : ℕ → ℕ → Type 0) : Type 0 where
  pub width : new.width ≡ old.width
  pub words : length new.words ≡ length old.words
  pub kept : IsInside (members old) (members new)
  pub added : (row location : ℕ) → Fact row location → Has (members new) row location
  pub nothing_else : (row location : ℕ)
      → Has (members new) row location
      → Has (members old) row location ⊎ Fact row location

-- one row has more: the locations of a set
abbrev pub In : ℕ → (ℕ → Type 0) → ℕ → ℕ → Type 0
In one Set row location = (row ≡ one) × Set location

-- one row for each function of a system, of the width that its locations ask for
pub record HasRowsFor (system : System) (rows : Rows) : Type 0 where
  pub width : rows.width ≡ width_of system
  pub words : length rows.words ≡ length system.functions * width_of system

-- the library function of that number stands at a location, and has the signature of the call
pub record IsLibraryAt (system : System) (call : CallSite) (location number : ℕ) (function : Function) : Type 0 where
  pub known : slice_get system.functions number ≡ Some function
  pub stands : function.location ≡ location
  pub agrees : function.signature ≡ call.signature
  pub library : IsSome function.library

-- where writes are asked for, what the call is given by the library function at a location
abbrev pub IsMadeAt : SpaceView → System → Access → CallSite → ℕ → ℕ → Type 0
IsMadeAt s system access call at location =
    (number : ℕ) × (function : Function) × IsLibraryAt system call at number function × IsWrite access
    × IsMade s system call number function location
