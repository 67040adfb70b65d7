-- Small facts on results, options, lists and functions.
use Rattle.std.proofs.Common.{◌≡◌, ◌≢◌, ◌↔◌, ℕ, zero, suc, ◌<◌, false, true≢false, Option, Some, None, List, All, Contains, length, get_or, slice_get, Result, Ok, Err, OnOk, IfOk, refl, sym, ap, ◌∙◌, inl, inr, arith}
use Rattle.std.specs.Option.{is_some}
use Rattle.std.proofs.lemmas.Option.{same_Some, slice_get_cases}
use Rattle.std.proofs.lemmas.List.Elements.{Contains-get_or}
use Rattle.sol_model.specs.declared.system.System.{System}
use Rattle.sol_model.specs.declared.system.CallSite.{CallSite}
use Rattle.sol_model.specs.declared.system.Function.{Function}
use Rattle.sol_model.specs.declared.system.LocationFact.{LocationFact}
use Rattle.sol_model.specs.Families.{Family, Has}
use Rattle.sol_model.specs.Rules.{argument_row, IsInArgument}
use Rattle.sol_model.specs.Systems.{IsValid}

pub on_ok : {A E : Type 0} (r : Result A E) (P Q : Type 0) → (P → Q) → OnOk r P → OnOk r Q
on_ok (Ok v) P Q f h = f h
on_ok (Err e) P Q f h = tt

pub if_ok : {A E : Type 0} (r : Result A E) (P Q : A → Type 0) → ((x : A) → P x → Q x) → IfOk r P → IfOk r Q
if_ok (Ok v) P Q f h = f v h
if_ok (Err e) P Q f h = tt

pub all_of : (P : ℕ → Type 0) (xs : List ℕ) → ((x : ℕ) → Contains xs x → P x) → All P xs
all_of P xs f k d lt = f (get_or xs k d) (Contains-get_or xs k d lt)

pub any_ok : {A E : Type 0} (r : Result A E) (P : Type 0) → P → OnOk r P
any_ok (Ok v) P p = p
any_ok (Err e) P p = tt

-- an element of a list by its number
pub element : {X : Type 0} (xs : List X) (i : ℕ) → i < length xs → (x : X) × (slice_get xs i ≡ Some x)
element xs i lt = elim (slice_get_cases xs i).1 [ inl some ↦ (some.0, some.2) | inr past ↦ absurd (let p = past.0 in omega arith) ]

pub none_of : {X : Type 0} (o : Option X) → is_some o ≡ false → o ≡ None
none_of None e = refl
none_of (Some x) e = absurd (true≢false e)

-- the function of a location
pub fact_function : (S : System) (valid : IsValid S) (location number : ℕ) (fact : LocationFact) (function : Function) → slice_get S.locations location ≡ Some fact → slice_get S.functions number ≡ Some function → function.location ≡ location → fact.function ≡ Some number
fact_function S valid location number fact function at known here = ((valid.locations location fact at).own number function known).1 here

-- two functions of one number
pub one_function : (S : System) (n m : ℕ) (f g : Function) → slice_get S.functions n ≡ Some f → slice_get S.functions m ≡ Some g → n ≡ m → f ≡ g
one_function S n m f g at there e = same_Some f g (sym at ∙ ap (slice_get S.functions) e ∙ there)

-- what an argument of a number from 1 on has
pub argument_as : (F : Family) (call : CallSite) (number k location : ℕ) → k ≢ 0 → (IsInArgument F call number k location ↔ ((at : ℕ) × (argument_row call k ≡ Some at) × Has F at location))
argument_as F call number zero location ne = absurd (ne refl)
argument_as F call number (suc k) location ne = (λ h. h, λ h. h)
