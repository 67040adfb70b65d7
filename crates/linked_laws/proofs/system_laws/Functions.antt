-- The functions of a system and their locations.
use Rattle.std.proofs.Common.{arith, ◌≡◌, ◌∙◌, ℕ, zero, suc, ◌+◌, ◌<◌, ◌==◌, Bool, true, false, cond, List, [], ◌∷◌, Option, Some, None, length, slice_get, unwrap_or, refl, sym, ap, subst, inl, inr}
use Rattle.std.specs.Prelude.{IfSome}
use Rattle.std.specs.List.{range_with_len, find, enumerate_from}
use Rattle.std.specs.Option.{option_map_or}
use Rattle.std.proofs.lemmas.Bool.{false≢true}
use Rattle.std.proofs.lemmas.Bool.Decides.{eqb_tells}
use Rattle.std.proofs.lemmas.Option.{slice_get_within}
use Rattle.c_types.specs.declared.key.ObjectKey.{ObjectKey}
use Rattle.core_tree.specs.Typed.{CoreTrees, trees_in}
use Rattle.core_tree.specs.declared.node.Program.{Program}
use Rattle.sol_model.specs.declared.system.System.{System}
use Rattle.sol_model.specs.declared.system.Function.{Function}
use Rattle.sol_model.specs.declared.system.LocationFact.{LocationFact}
use Rattle.sol_model.specs.Systems.{IsLocationValid}
use Rattle.obj_space.specs.View.{SpaceView}
use Rattle.obj_space.proofs.Placed.{get_mapped}
use Rattle.row_numbers.specs.Functions.{begins_at, object_at, function_keys, functions_below, functions_of, function_at, number_at}
use Rattle.normal_form.specs.Facts.{number_if, location_fact, location_facts, IsFunctionFact, AreFunctions}
use Rattle.normal_form.specs.SystemOf.{SystemOf}
use Rattle.constraints.specs.System.{AreLocated}
use Rattle.linked_laws.proofs.system_laws.Compact.{found_at, stands_at, once, zip_right, zip_length, numbered_at, numbered_length}

some_one : {X : Type 0} → {x y : X} → ◌≡◌ {A = Option X} (Some x) (Some y) → x ≡ y
some_one h = cc

none_some : {X : Type 0} → {x : X} → ◌≡◌ {A = Option X} None (Some x) → ⊥
none_some h = cc

-- what is found passes the test
found_case : (test : ObjectKey → Bool) (x : ObjectKey) (xs : List ObjectKey) (key : ObjectKey) (b : Bool) → test x ≡ b → (find test xs ≡ Some key → test key ≡ true) → cond b (Some x) (find test xs) ≡ Some key → test key ≡ true
found_case test x xs key true is later h = subst (λ (k : ObjectKey). test k ≡ true) (some_one h) is
found_case test x xs key false is later h = later h

found : (test : ObjectKey → Bool) (xs : List ObjectKey) (key : ObjectKey) → find test xs ≡ Some key → test key ≡ true
found test [] key h = cc
found test (x ∷ xs) key h = found_case test x xs key (test x) refl (found test xs key) h

begins_is : (o : Option ℕ) (location : ℕ) → option_map_or (λ first. first == location) o false ≡ true → o ≡ Some location
begins_is None location h = absurd (false≢true h)
begins_is (Some first) location h = elim (eqb_tells first location) [ inl same ↦ ap Some same.1 | inr other ↦ absurd (false≢true (sym other.0 ∙ h)) ]

range_at : (a n k x : ℕ) → slice_get (range_with_len a n) k ≡ Some x → (x ≡ a + k) × (k < n)
range_at a zero k x h = cc
range_at a (suc n) zero x h = let e = some_one h in (omega (arith, e), omega arith)
range_at a (suc n) (suc k) x h = let e = range_at (a + 1) n k x h in (omega (arith, e.0), omega (arith, e.1))

module _ (u : CoreTrees) (s : SpaceView) where
  pub at_location : ℕ → Option ObjectKey
  at_location l = object_at s (function_keys u) l

  -- the function at a location begins there
  pub first_of : (l : ℕ) (key : ObjectKey) → function_at u s l ≡ Some key → s.first key ≡ Some l
  first_of l key h = begins_is (s.first key) l (found (begins_at s l) (function_keys u) key h)

  -- a function of a system: its key, and its location
  pub record HasPlace (number : ℕ) (function : Function) : Type 0 where
    pub key : ObjectKey
    pub at : ℕ
    pub within : at < s.count
    pub there : function_at u s at ≡ Some key
    pub number_is : number ≡ number_at u s at
    pub location : function.location ≡ at
    pub stands : slice_get (functions_of u s) number ≡ Some key
    pub fact : IsFunctionFact u s number key function

  pub place_of : (functions : List Function) → AreFunctions u s functions → (number : ℕ) (function : Function) → slice_get functions number ≡ Some function → HasPlace number function
  unfolding functions_below
  place_of functions are number function at =
      let z = zip_right (λ (entry : ℕ × ObjectKey) f. IsFunctionFact u s entry.0 entry.1 f) (enumerate_from 0 (functions_of u s)) functions number function are at in
      let n = numbered_at 0 (functions_of u s) number z.0 z.1 in
      let f = found_at (object_at s (function_keys u)) s.count number z.0.1 n.1 in
      let begins = first_of f.at z.0.1 f.found in
      let same : z.0.0 ≡ number = (let q = n.0 in omega arith) in
      record {
        key = z.0.1;
        at = f.at;
        within = f.within;
        there = f.found;
        number_is = f.place;
        location = z.2.location ∙ ap (λ (o : Option ℕ). unwrap_or o 0) begins;
        stands = n.1;
        fact = subst (λ (m : ℕ). IsFunctionFact u s m z.0.1 function) same z.2;
      }

  pub number_within : (functions : List Function) → AreFunctions u s functions → (l : ℕ) (key : ObjectKey) → l < s.count → function_at u s l ≡ Some key → number_at u s l < length functions
  unfolding functions_below
  number_within functions are l key lt is =
      let many = zip_length (λ (entry : ℕ × ObjectKey) f. IsFunctionFact u s entry.0 entry.1 f) (enumerate_from 0 (functions_of u s)) functions are in
      let all = numbered_length 0 (functions_of u s) in
      let less = slice_get_within (functions_of u s) (number_at u s l) key (stands_at (object_at s (function_keys u)) s.count l key lt is) in
      omega arith

  pub number_once : (l m : ℕ) (a b : ObjectKey) → function_at u s l ≡ Some a → function_at u s m ≡ Some b → number_at u s l ≡ number_at u s m → l ≡ m
  unfolding functions_below
  number_once l m a b x y e = once (object_at s (function_keys u)) l m a b x y e

  function_within : (functions : List Function) → AreFunctions u s functions → (l : ℕ) → l < s.count → (o : Option ObjectKey) → function_at u s l ≡ o → IfSome (number_if o (number_at u s l)) (λ number. number < length functions)
  function_within functions are l lt None is = tt
  function_within functions are l lt (Some key) is = number_within functions are l key lt is

  number_some : (o : Option ObjectKey) (before number : ℕ) → number_if o before ≡ Some number → (key : ObjectKey) × (o ≡ Some key) × (before ≡ number)
  number_some None before number e = absurd (none_some e)
  number_some (Some key) before number e = (key, refl, some_one e)

  pub location_valid : (system : System) → system.locations ≡ location_facts u s → AreFunctions u s system.functions → AreLocated system → (l : ℕ) (fact : LocationFact) → slice_get system.locations l ≡ Some fact → IsLocationValid system l fact
  location_valid system locations are located l fact at =
      let m = get_mapped (location_fact u s) (range_with_len 0 s.count) l fact (ap (λ (fs : List LocationFact). slice_get fs l) (sym locations) ∙ at) in
      let r = range_at 0 s.count l m.0 m.1 in
      let same : m.0 ≡ l = (let q = r.0 in omega arith) in
      let here : location_fact u s l ≡ fact = ap (location_fact u s) (sym same) ∙ m.2 in
      let is : fact.function ≡ number_if (function_at u s l) (number_at u s l) = ap (λ (f : LocationFact). f.function) (sym here) in
      record {
        typed = (located l fact at).0;
        nodes = (located l fact at).1;
        function = subst (λ (o : Option ℕ). IfSome o (λ number. number < length system.functions)) (sym is) (function_within system.functions are l r.1 (function_at u s l) refl);
        own = λ number function there.
            let f = place_of system.functions are number function there in (
              (λ named.
                  let n = number_some (function_at u s l) (number_at u s l) number (sym is ∙ named) in
                  f.location ∙ sym (number_once l f.at n.0 f.key n.1 f.there (n.2 ∙ f.number_is))),
              (λ begins.
                  let one : f.at ≡ l = sym f.location ∙ begins in
                  is ∙ (ap (λ (o : Option ObjectKey). number_if o (number_at u s l)) (sym (ap (function_at u s) one) ∙ f.there) ∙ ap Some (sym (ap (number_at u s) one) ∙ sym f.number_is))),
            );
      }

pub locations_valid : (p : Program) (s : SpaceView) (system : System) → SystemOf p s system → AreLocated system → (l : ℕ) (fact : LocationFact) → slice_get system.locations l ≡ Some fact → IsLocationValid system l fact
locations_valid p s system is located l fact at = location_valid (trees_in p) s system is.locations is.functions located l fact at
