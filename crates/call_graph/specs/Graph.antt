-- The edges of a call graph, call by call.
use Rattle.std.specs.Prelude.{◌≡◌, ℕ, ◌⊎◌, ◌↔◌, List, Some, IsSome, Contains, slice_get}
use Rattle.pta_base.specs.declared.effect.Effect.{Effect}
use Rattle.pta_base.specs.declared.effect.Effect.TheVariants.{CallsBack}
use Rattle.sol_model.specs.declared.system.System.{System}
use Rattle.sol_model.specs.declared.system.CallSite.{CallSite}
use Rattle.sol_model.specs.declared.system.Function.{Function}
use Rattle.sol_model.specs.Families.{Family, Has}
use Rattle.sol_model.specs.Rules.{IsTarget, IsCalledBack}
use Rattle.sol_model.specs.Targets.{IsGraphEdge}
use Rattle.call_graph.specs.Order.{IsInOrder}

-- the graph of a family: each edge once, by the number of the caller and then of the callee
pub record IsGraph (system : System) (F : Family) (pairs : List (ℕ × ℕ)) : Type 0 where
  pub edges : (caller callee : ℕ) → Contains pairs (caller, callee) ↔ IsGraphEdge system F caller callee
  pub ordered : IsInOrder pairs

-- a list that gained the pairs of a relation
pub record Gains (old new : List (ℕ × ℕ)) (Edge : ℕ → ℕ → Type 0) : Type 0 where
  pub kept : (a b : ℕ) → Contains old (a, b) → Contains new (a, b)
  pub added : (a b : ℕ) → Edge a b → Contains new (a, b)
  pub nothing_else : (a b : ℕ) → Contains new (a, b) → Contains old (a, b) ⊎ Edge a b

-- a function of a signature that a row has
pub record IsHeld (system : System) (F : Family) (row signature number : ℕ) (function : Function) : Type 0 where
  pub known : slice_get system.functions number ≡ Some function
  pub reached : Has F row function.location
  pub agrees : function.signature ≡ signature

-- a caller, with each such function
abbrev pub IsFrom : System → Family → ℕ → ℕ → ℕ → ℕ → ℕ → Type 0
IsFrom system F row signature caller a b =
    (a ≡ caller) × ((function : Function) × IsHeld system F row signature b function)

-- a function of a signature that stands at a location
pub record IsFunctionAt (system : System) (location signature number : ℕ) (function : Function) : Type 0 where
  pub known : slice_get system.functions number ≡ Some function
  pub stands : function.location ≡ location
  pub agrees : function.signature ≡ signature

-- a caller, with such a function
abbrev pub IsTo : System → ℕ → ℕ → ℕ → ℕ → ℕ → Type 0
IsTo system signature caller location a b =
    (a ≡ caller) × ((function : Function) × IsFunctionAt system location signature b function)

-- a library function, with a function that one of its effects calls back
abbrev pub IsBackIn : System → Family → CallSite → Effect → ℕ → ℕ → ℕ → Type 0
IsBackIn system F call (CallsBack k passed) library a b =
    (a ≡ library) × ((called : Function) × IsCalledBack system F call k passed b called)
IsBackIn system F call _ library a b = ⊥

-- a library function, with a function that it calls back
abbrev pub IsBackBy : System → Family → CallSite → ℕ → Function → ℕ → ℕ → Type 0
IsBackBy system F call library function a b =
    (effect : Effect) × Contains function.effects effect × IsBackIn system F call effect library a b

-- the same where that library function is a target of the call
abbrev pub IsBackEdge : System → Family → CallSite → ℕ → ℕ → ℕ → Type 0
IsBackEdge system F call target a b =
    (function : Function) × IsTarget system F call target function × IsSome function.library
    × IsBackBy system F call target function a b

-- the call backs of the function at a location
abbrev pub IsBackAt : System → Family → CallSite → ℕ → ℕ → ℕ → Type 0
IsBackAt system F call location a b =
    (target : ℕ) × (function : Function) × (slice_get system.functions target ≡ Some function)
    × (function.location ≡ location) × IsBackEdge system F call target a b

-- the edges of a call
abbrev pub IsCallEdge : System → Family → CallSite → ℕ → ℕ → Type 0
IsCallEdge system F call a b =
    IsFrom system F call.callee call.signature call.caller a b
    ⊎ ((target : ℕ) × IsBackEdge system F call target a b)
