-- The rules of the constraint forms. A rule demands that one row's set is contained in another's (an edge), or that
-- a row has a location (a fact), from what a family has.
use Rattle.std.specs.Prelude.{◌≡◌, ℕ, zero, suc, ◌⊎◌, List, Option, Some, None, slice_get, option_and_then}
use Rattle.std.specs.Prelude.{Contains, zip, IsFalse}
use Rattle.pta_base.specs.declared.effect.Effect.{Effect}
use Rattle.pta_base.specs.declared.effect.Effect.TheVariants.{Nothing, GivesArgument, GivesNew, GivesObject, Copies}
use Rattle.pta_base.specs.declared.effect.Effect.TheVariants.{StoresInto, CallsBack}
use Rattle.sol_model.specs.declared.system.System.{System}
use Rattle.sol_model.specs.declared.system.CallSite.{CallSite}
use Rattle.sol_model.specs.declared.system.Function.{Function}
use Rattle.sol_model.specs.declared.system.Constraint.{Constraint}
use Rattle.sol_model.specs.declared.system.Constraint.TheVariants.{Address, Copy, Load, Store, Field, Contents}
use Rattle.sol_model.specs.declared.system.Constraint.TheVariants.{Call}
use Rattle.sol_model.specs.Families.{Family, Has, IsContained}
use Rattle.sol_model.specs.Places.{sub_of, field_of, deep}

-- a function that the callee's row has, with the call's signature
pub record IsTarget (system : System) (F : Family) (call : CallSite) (number : ℕ)
    (function : Function) : Type 0 where
  pub known : slice_get system.functions number ≡ Some function
  pub reached : Has F call.callee function.location
  pub agrees : function.signature ≡ call.signature

-- the first row of a list of rows
abbrev pub first_row : List ℕ → Option ℕ
first_row rows = slice_get rows 0

-- the row of an argument, numbered from 1
abbrev pub argument_row : CallSite → ℕ → Option ℕ
argument_row call zero = None
argument_row call (suc k) = option_and_then first_row (slice_get call.arguments k)

-- the row of a parameter, numbered from 0
abbrev pub parameter_row : Function → ℕ → Option ℕ
parameter_row function k = option_and_then first_row (slice_get function.parameters k)

-- what an argument has; number 0 stands for the location that the call gets from the function
abbrev pub IsInArgument : Family → CallSite → ℕ → ℕ → ℕ → Type 0
IsInArgument F call number zero location = Contains call.fresh (number, location)
IsInArgument F call number (suc k) location =
    (row : ℕ) × (argument_row call (suc k) ≡ Some row) × Has F row location

-- rows of two lists of rows, place by place
abbrev pub AreJoined : List (List ℕ) → List (List ℕ) → ℕ → ℕ → Type 0
AreJoined from to a b = (rows : List ℕ × List ℕ) × Contains (zip from to) rows × Contains (zip rows.0 rows.1) (a, b)

-- the signature of a function that is called back: 0 with a pair of arguments, 1 without
abbrev pub back_signature : Option (ℕ × ℕ) → ℕ
back_signature None = 1
back_signature (Some _) = 0

-- a function that argument k has, with the signature of the call back
pub record IsCalledBack (system : System) (F : Family) (call : CallSite) (k : ℕ) (passed : Option (ℕ × ℕ))
    (number : ℕ) (function : Function) : Type 0 where
  pub known : slice_get system.functions number ≡ Some function
  pub reached : (row : ℕ) × (argument_row call k ≡ Some row) × Has F row function.location
  pub agrees : function.signature ≡ back_signature passed

-- the arguments of a call back go into the parameters of the function that is called back; a library function that
-- is called back has no effect on sets
abbrev pub PassesBack : CallSite → Option (ℕ × ℕ) → Function → ℕ → ℕ → Type 0
PassesBack call None function a b = ⊥
PassesBack call (Some pair) function a b =
    (function.library ≡ None)
    × (((argument_row call pair.0 ≡ Some a) × (parameter_row function 0 ≡ Some b))
    ⊎ ((argument_row call pair.1 ≡ Some a) × (parameter_row function 1 ≡ Some b)))

-- an edge that an effect of a library function demands of a call
abbrev pub EffectEdge : System → Family → CallSite → ℕ → Effect → ℕ → ℕ → Type 0
EffectEdge system F call number Nothing a b = ⊥
EffectEdge system F call number (GivesArgument k) a b =
    (argument_row call k ≡ Some a) × (first_row call.result ≡ Some b)
EffectEdge system F call number GivesNew a b = ⊥
EffectEdge system F call number (GivesObject object) a b = ⊥
EffectEdge system F call number (Copies i j) a b =
    (d : ℕ) × (s : ℕ) × IsInArgument F call number i d × IsInArgument F call number j s
    × Contains (deep system d s) (b, a)
EffectEdge system F call number (StoresInto i j) a b =
    (row : ℕ) × (argument_row call i ≡ Some row) × Has F row b × (argument_row call j ≡ Some a)
EffectEdge system F call number (CallsBack k passed) a b =
    (back : ℕ) × (function : Function) × IsCalledBack system F call k passed back function
    × PassesBack call passed function a b

-- a fact that an effect demands of a call
abbrev pub EffectFact : CallSite → ℕ → Effect → ℕ → ℕ → Type 0
EffectFact call number GivesNew row location =
    (first_row call.result ≡ Some row) × Contains call.fresh (number, location)
EffectFact call number (GivesObject object) row location =
    (first_row call.result ≡ Some row) × Contains call.fresh (number, location)
EffectFact call number _ row location = ⊥

-- an edge that a target demands of a call: that of a library function by its effects, of any other by its rows
abbrev pub TargetEdge : System → Family → CallSite → ℕ → Function → Option ℕ → ℕ → ℕ → Type 0
TargetEdge system F call number function None a b =
    AreJoined call.arguments function.parameters a b ⊎ Contains (zip function.result call.result) (a, b)
TargetEdge system F call number function (Some library) a b =
    (effect : Effect) × Contains function.effects effect × EffectEdge system F call number effect a b

abbrev pub TargetFact : CallSite → ℕ → Function → Option ℕ → ℕ → ℕ → Type 0
TargetFact call number function None row location = ⊥
TargetFact call number function (Some library) row location =
    (effect : Effect) × Contains function.effects effect × EffectFact call number effect row location

-- with a family's facts, the rule of a constraint demands that row a is contained in row b
abbrev pub DemandsEdge : System → Family → Constraint → ℕ → ℕ → Type 0
DemandsEdge system F (Address row location) a b = ⊥
DemandsEdge system F (Copy from to) a b = (a ≡ from) × (b ≡ to)
DemandsEdge system F (Load pointer to ty sub) a b =
    (location : ℕ) × Has F pointer location × (sub_of system location ty sub ≡ Some a) × (b ≡ to)
DemandsEdge system F (Store pointer from ty sub) a b =
    (location : ℕ) × Has F pointer location × (sub_of system location ty sub ≡ Some b) × (a ≡ from)
DemandsEdge system F (Field from to ty member) a b = ⊥
DemandsEdge system F (Contents to from) a b =
    (d : ℕ) × (s : ℕ) × Has F to d × Has F from s × Contains (deep system d s) (b, a)
DemandsEdge system F (Call number) a b =
    (call : CallSite) × (target : ℕ) × (function : Function) × (slice_get system.calls number ≡ Some call)
    × IsTarget system F call target function × TargetEdge system F call target function function.library a b

-- with a family's facts, the rule of a constraint demands that a row has a location
abbrev pub DemandsFact : System → Family → Constraint → ℕ → ℕ → Type 0
DemandsFact system F (Address to what) row location = (row ≡ to) × (location ≡ what)
DemandsFact system F (Copy from to) row location = ⊥
DemandsFact system F (Load pointer to ty sub) row location = ⊥
DemandsFact system F (Store pointer from ty sub) row location = ⊥
DemandsFact system F (Field from to ty member) row location =
    (whole : ℕ) × Has F from whole × (field_of system whole ty member ≡ Some location) × (row ≡ to)
DemandsFact system F (Contents to from) row location = ⊥
DemandsFact system F (Call number) row location =
    (call : CallSite) × (target : ℕ) × (function : Function) × (slice_get system.calls number ≡ Some call)
    × IsTarget system F call target function × TargetFact call target function function.library row location

-- no edge, and no fact
abbrev pub Nowhere : ℕ → ℕ → Type 0
Nowhere a b = ⊥

-- the edges of the pairs that a copy of one whole object to another joins
abbrev pub PairEdge : System → ℕ → ℕ → ℕ → ℕ → Type 0
PairEdge system to from a b = Contains (deep system to from) (b, a)

-- those of copies to one object from each that a row has
abbrev pub IntoEdge : System → Family → ℕ → ℕ → ℕ → ℕ → Type 0
IntoEdge system F to row a b = (from : ℕ) × Has F row from × PairEdge system to from a b

-- those of copies to one object from each that an argument has
abbrev pub IntoArgumentEdge : System → Family → CallSite → ℕ → ℕ → ℕ → ℕ → ℕ → Type 0
IntoArgumentEdge system F call number to k a b =
    (from : ℕ) × IsInArgument F call number k from × PairEdge system to from a b

-- what is demanded by edges and facts is there
pub record IsMet (Edge Fact : ℕ → ℕ → Type 0) (F : Family) : Type 0 where
  pub edges : (a b : ℕ) → Edge a b → IsContained F a b
  pub facts : (row location : ℕ) → Fact row location → Has F row location

-- one of the facts, or what an edge carries over from what the family has
abbrev pub IsDemanded : (ℕ → ℕ → Type 0) → (ℕ → ℕ → Type 0) → Family → ℕ → ℕ → Type 0
IsDemanded Edge Fact F row location = Fact row location ⊎ ((from : ℕ) × Edge from row × Has F from location)

-- a fact that is demanded, and that the family lacks
pub record IsMissing (Edge Fact : ℕ → ℕ → Type 0) (F : Family) (row location : ℕ) : Type 0 where
  pub demanded : IsDemanded Edge Fact F row location
  pub lacks : IsFalse (F row location)

-- the family satisfies the rule of a constraint
abbrev pub Satisfies : System → Family → Constraint → Type 0
Satisfies system F constraint = IsMet (DemandsEdge system F constraint) (DemandsFact system F constraint) F

-- the rule of a constraint demands one fact from the facts of a family
abbrev pub Gives : System → Family → Constraint → ℕ → ℕ → Type 0
Gives system F constraint row location =
    IsDemanded (DemandsEdge system F constraint) (DemandsFact system F constraint) F row location

-- a fact that the rule of a constraint demands, and that the family lacks
abbrev pub Misses : System → Family → Constraint → ℕ → ℕ → Type 0
Misses system F constraint row location =
    IsMissing (DemandsEdge system F constraint) (DemandsFact system F constraint) F row location
