-- Functions and their locations, each told of the other.
use Rattle.std.specs.Prelude.{◌≡◌, ℕ, ◌+◌, ◌<◌, ◌≤◌, IsFalse, length, IfSome, Some, slice_get}
use Rattle.sol_model.specs.declared.system.System.{System}
use Rattle.sol_model.specs.declared.system.LocationFact.{LocationFact}
use Rattle.sol_model.specs.declared.system.Function.{Function}
use Rattle.sol_model.specs.Places.{nodes_of}
use Rattle.sol_model.specs.Systems.{location_count}

-- the function of this number stands at a location
abbrev pub IsAt : System → ℕ → ℕ → Type 0
IsAt system number location =
    (function : Function) × (slice_get system.functions number ≡ Some function) × (function.location ≡ location)

-- a location with its type, its nodes, and a function that stands there
pub record IsPlaced (system : System) (location : ℕ) (fact : LocationFact) : Type 0 where
  pub typed : fact.ty < length system.types
  pub nodes : IsFalse fact.collapsed → location + nodes_of system fact.ty ≤ location_count system
  pub function : IfSome fact.function (λ number. IsAt system number location)

-- a function whose location knows it
pub record IsOwned (system : System) (number : ℕ) (function : Function) : Type 0 where
  pub fact : LocationFact
  pub known : slice_get system.locations function.location ≡ Some fact
  pub owner : fact.function ≡ Some number
