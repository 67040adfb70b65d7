-- The edges of the call graph, call by call.
use Rattle.std.specs.Prelude.{◌≡◌, ℕ, Option, Some, IsSome, Contains}
use Rattle.pta_base.specs.declared.effect.Effect.{Effect}
use Rattle.pta_base.specs.declared.effect.Effect.TheVariants.{CallsBack}
use Rattle.sol_model.specs.declared.system.System.{System}
use Rattle.sol_model.specs.declared.system.CallSite.{CallSite}
use Rattle.sol_model.specs.declared.system.Function.{Function}
use Rattle.sol_model.specs.Families.{Family, Has}
use Rattle.sol_model.specs.Rules.{argument_row, back_signature}

-- an argument has a function, of the signature by which it is called back
abbrev pub TakesBack : Family → CallSite → Function → ℕ → Option (ℕ × ℕ) → Type 0
TakesBack F call back k passed =
    (row : ℕ)
    × (argument_row call k ≡ Some row)
    × Has F row back.location
    × (back.signature ≡ back_signature passed)

-- an effect calls a function back
abbrev pub EffectTakes : Family → CallSite → Function → Effect → Type 0
EffectTakes F call back (CallsBack k passed) = TakesBack F call back k passed
EffectTakes F call back effect = ⊥

abbrev pub IsBackBy : Family → CallSite → Function → Function → Type 0
IsBackBy F call library back = (effect : Effect) × Contains library.effects effect × EffectTakes F call back effect

-- a call's row of functions has a function, and both have one signature
abbrev pub Reaches : Family → CallSite → Function → Type 0
Reaches F call function = Has F call.callee function.location × (function.signature ≡ call.signature)

-- a call reaches a function of the library that calls a function back
abbrev pub HasBack : Family → Function → Function → CallSite → Type 0
HasBack F library back call = IsSome library.library × Reaches F call library × IsBackBy F call library back

-- a call is a function's, and reaches a function
abbrev pub HasCall : Family → ℕ → Function → CallSite → Type 0
HasCall F caller callee call = (call.caller ≡ caller) × Reaches F call callee

-- some call reaches a function of the library that calls a function back
abbrev pub SomeBack : System → Family → Function → Function → Type 0
SomeBack system F back library = (call : CallSite) × Contains system.calls call × HasBack F library back call

-- a call reaches a function of the library that some call makes call a function back
abbrev pub ReachesBack : System → Family → CallSite → Function → Function → Type 0
ReachesBack system F call back library = Reaches F call library × SomeBack system F back library

abbrev pub IsBackOf : System → Family → CallSite → Function → Type 0
IsBackOf system F call back =
    (library : Function) × Contains system.functions library × ReachesBack system F call back library
