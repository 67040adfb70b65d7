-- Rows on the way to the least solution.
use Rattle.std.specs.Prelude.{◌≡◌, ℕ, ◌≤◌, Contains, Some, IsSome, slice_get}
use Rattle.pta_base.specs.declared.effect.Effect.{Effect}
use Rattle.sol_model.specs.declared.system.System.{System}
use Rattle.sol_model.specs.declared.system.CallSite.{CallSite}
use Rattle.sol_model.specs.declared.system.Function.{Function}
use Rattle.sol_model.specs.declared.system.Constraint.TheVariants.{Call}
use Rattle.sol_model.specs.declared.rows.Rows.{Rows}
use Rattle.sol_model.specs.Families.{Family, IsInside, members, room_left}
use Rattle.sol_model.specs.Rules.{IsTarget}
use Rattle.sol_model.specs.Solutions.{IsBelow}
use Rattle.sol_model.specs.Systems.{Fits}

-- rows that fit the system, of which each closed family has every fact
pub record IsPart (system : System) (rows : Rows) : Type 0 where
  pub fits : Fits system rows
  pub below : IsBelow system (members rows)

-- rows that have all that older ones had, and are still part of each closed family
pub record Grows (system : System) (old new : Rows) : Type 0 where
  pub part : IsPart system new
  pub kept : IsInside (members old) (members new)
  pub room : room_left new ≤ room_left old

-- a function that a call reaches whose rule is among the constraints
pub record IsReached (system : System) (F : Family) (call : CallSite) (number : ℕ)
    (function : Function) : Type 0 where
  pub place : ℕ
  pub listed : Contains system.constraints (Call place)
  pub known : slice_get system.calls place ≡ Some call
  pub target : IsTarget system F call number function

-- an effect that such a call has, by a library function that it reaches
pub record HasEffect (system : System) (F : Family) (call : CallSite) (number : ℕ) (effect : Effect) : Type 0 where
  pub function : Function
  pub reached : IsReached system F call number function
  pub library : IsSome function.library
  pub listed : Contains function.effects effect
