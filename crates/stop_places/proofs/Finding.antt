-- What stands at a location, as tests find it and as the system says it.
use Rattle.std.proofs.Common.{◌≡◌, ◌↔◌, ℕ, ◌<◌, ◌⊎◌, ◌==◌, Bool, true, false, cond, List, Option, Some, None, length, get_or, slice_get, Contains, refl, sym, ◌∙◌, ap, subst, inl, inr, arith}
use Rattle.std.specs.Prelude.{option_and_then, IsFalse}
use Rattle.std.specs.List.{list_any}
use Rattle.std.specs.Option.{option_map_or}
use Rattle.std.specs.Str.{bytes_eq}
use Rattle.std.proofs.lemmas.Bool.{cases_Bool, eqb-true, eq-eqb, false≢true}
use Rattle.std.proofs.lemmas.Slice.Eq.{bytes_eq-Decides}
use Rattle.std.proofs.lemmas.Option.{slice_get-get_or}
use Rattle.sol_model.specs.declared.system.System.{System}
use Rattle.sol_model.specs.declared.system.LocationFact.{LocationFact}
use Rattle.sol_model.specs.declared.system.CallSite.{CallSite}
use Rattle.sol_model.specs.declared.system.Function.{Function}
use Rattle.sol_model.specs.Systems.{IsValid, IsLocation}
use Rattle.call_graph.specs.Graph.{IsFunctionAt}
use Rattle.lib_summaries.specs.Table.{name_of}
use Rattle.stop_places.specs.declared.targets.Found.{Found}
use Rattle.stop_places.specs.declared.targets.Found.TheVariants.{Stranger, Own, Library}
use Rattle.stop_places.specs.Targets.{IsAmong, enders, walkers}
use Rattle.stop_places.specs.Found.{found_by, found_in, function_number, function_at, found_at, is_named, is_library, is_walker, is_bad}
use Rattle.stop_places.proofs.Pushed.{any_in, in_any}

-- ---- functions at locations
and_then_from : {A B : Type 0} (g : A → Option B) (o : Option A) (b : B) → option_and_then g o ≡ Some b → (a : A) × (o ≡ Some a) × (g a ≡ Some b)
and_then_from g None b h = absurd (cc)
and_then_from g (Some a) b h = (a, refl, h)

and_then_to : {A B : Type 0} (g : A → Option B) (o : Option A) (a : A) → o ≡ Some a → option_and_then g o ≡ g a
and_then_to g o a e = ap (option_and_then g) e

-- the function that is found at a location stands there
pub stands : (system : System) (l : ℕ) (f : Function) → IsValid system → function_at system l ≡ Some f → (number : ℕ) × (slice_get system.functions number ≡ Some f) × (f.location ≡ l)
stands system l f valid h =
    let a = and_then_from (slice_get system.functions) (function_number system l) f h in
    let b = and_then_from (λ (fact : LocationFact). fact.function) (slice_get system.locations l) a.0 a.1 in
    (a.0, a.2, ((valid.locations l b.0 b.1).own a.0 f a.2).0 b.2)

-- and what stands there is found
pub stood : (system : System) (l number : ℕ) (f : Function) → IsValid system → IsLocation system l → slice_get system.functions number ≡ Some f → f.location ≡ l → function_at system l ≡ Some f
stood system l number f valid within known at =
    let d : LocationFact = record { collapsed = false; ty = 0; function = None } in
    let there : slice_get system.locations l ≡ Some (get_or system.locations l d) = slice_get-get_or system.locations l d within in
    let fact : LocationFact = get_or system.locations l d in
    let number_is : fact.function ≡ Some number = ((valid.locations l fact there).own number f known).1 at in
    and_then_to (slice_get system.functions) (function_number system l) number (and_then_to (λ (x : LocationFact). x.function) (slice_get system.locations l) fact there ∙ number_is) ∙ known

-- ---- what is found
by_not : (o : Option ℕ) → found_by o ≡ Stranger → ⊥
by_not None h = cc
by_not (Some k) h = cc

by_library : (o : Option ℕ) (k : ℕ) → found_by o ≡ Library k → o ≡ Some k
by_library None k h = absurd (cc)
by_library (Some j) k h = cc

in_with : (signature : ℕ) (f : Function) (b : Bool) → (f.signature == signature) ≡ b → found_in signature (Some f) ≡ cond b (found_by f.library) Stranger
in_with signature f b e = ap (λ (c : Bool). cond c (found_by f.library) Stranger) e

pub library_from : (signature : ℕ) (o : Option Function) (k : ℕ) → found_in signature o ≡ Library k → (f : Function) × (o ≡ Some f) × (f.signature ≡ signature) × (f.library ≡ Some k)
library_from signature None k h = absurd (cc)
library_from signature (Some f) k h = elim (cases_Bool (f.signature == signature)) [
  | inl agrees ↦ (f, refl, eqb-true _ _ agrees, by_library f.library k (sym (in_with signature f true agrees) ∙ h))
  | inr differs ↦ absurd (let e : Stranger ≡ Library k = sym (in_with signature f false differs) ∙ h in cc)
]

pub library_to : (signature : ℕ) (o : Option Function) (f : Function) (k : ℕ) → o ≡ Some f → f.signature ≡ signature → f.library ≡ Some k → found_in signature o ≡ Library k
library_to signature o f k is agrees library =
    ap (found_in signature) is ∙ (in_with signature f true (eq-eqb _ _ agrees) ∙ ap found_by library)

pub stranger_from : (signature : ℕ) (o : Option Function) (f : Function) → found_in signature o ≡ Stranger → o ≡ Some f → f.signature ≡ signature → ⊥
stranger_from signature o f h is agrees =
    by_not f.library (sym (in_with signature f true (eq-eqb _ _ agrees)) ∙ (sym (ap (found_in signature) is) ∙ h))

pub stranger_to : (signature : ℕ) (o : Option Function) → ((f : Function) → o ≡ Some f → f.signature ≡ signature → ⊥) → found_in signature o ≡ Stranger
stranger_to signature None none = refl
stranger_to signature (Some f) none = elim (cases_Bool (f.signature == signature)) [
  | inl agrees ↦ absurd (none f refl (eqb-true _ _ agrees))
  | inr differs ↦ in_with signature f false differs
]

-- ---- tests of what is found
pub is_library_from : (found : Found) → is_library found ≡ true → (k : ℕ) × (found ≡ Library k)
is_library_from Stranger h = absurd (cc)
is_library_from Own h = absurd (cc)
is_library_from (Library k) h = (k, refl)

pub is_walker_from : (found : Found) → is_walker found ≡ true → (k : ℕ) × (found ≡ Library k) × (is_named walkers k ≡ true)
is_walker_from Stranger h = absurd (cc)
is_walker_from Own h = absurd (cc)
is_walker_from (Library k) h = (k, refl, h)

pub is_bad_from : (found : Found) → is_bad found ≡ true → (found ≡ Stranger) ⊎ ((k : ℕ) × (found ≡ Library k) × (is_named enders k ≡ true))
is_bad_from Stranger h = inl refl
is_bad_from Own h = absurd (cc)
is_bad_from (Library k) h = inr (k, refl, h)

-- ---- names
named_from : (names : List (List ℕ)) (o : Option (List ℕ)) → option_map_or (λ name. list_any (λ other. bytes_eq other name) names) o false ≡ true → (name : List ℕ) × (o ≡ Some name) × Contains names name
named_from names None h = absurd (cc)
named_from names (Some name) h =
    let a = any_in (λ other. bytes_eq other name) names h in
    (name, refl, subst (Contains names) ((bytes_eq-Decides a.0 name).0 a.2) a.1)

pub is_named_from : (names : List (List ℕ)) (k : ℕ) → is_named names k ≡ true → IsAmong names k
is_named_from names k h = named_from names (name_of k) h

pub is_named_to : (names : List (List ℕ)) (k : ℕ) → IsAmong names k → is_named names k ≡ true
is_named_to names k among =
    ap (λ o. option_map_or (λ name. list_any (λ other. bytes_eq other name) names) o false) among.1
    ∙ in_any (λ other. bytes_eq other among.0) names among.0 among.2 ((bytes_eq-Decides among.0 among.0).1 refl)
