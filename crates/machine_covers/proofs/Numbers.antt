-- Which functions and calls numbers are.
use Rattle.std.proofs.Common.{arith, ◌≡◌, ◌∙◌, inl, inr, ℕ, zero, suc, ◌+◌, ◌-◌, ◌<◌, ◌≤◌, Bool, true, false, cond, List, [], ◌∷◌, ◌++◌, Option, Some, None, IfSome, length, take, slice_get, get_or, refl, sym, ap, subst}
use Rattle.std.specs.Prelude.{unwrap_or, option_and_then}
use Rattle.std.specs.List.{AllZip, enumerate_from, filter_map, range_with_len}
use Rattle.std.proofs.lemmas.Option.{slice_get_within, slice_get-get_or}
use Rattle.c_types.specs.declared.key.ObjectKey.{ObjectKey}
use Rattle.sol_model.specs.declared.system.System.{System}
use Rattle.sol_model.specs.declared.system.Function.{Function}
use Rattle.sol_model.specs.declared.system.LocationFact.{LocationFact}
use Rattle.sol_model.specs.Systems.{IsValid, IsLocationValid, IsFunctionValid}
use Rattle.obj_space.specs.declared.location.Location.{Location}
use Rattle.obj_space.specs.View.{first_from}
use Rattle.row_numbers.specs.Functions.{functions_of}
use Rattle.normal_form.specs.Facts.{IsFunctionFact}
use Rattle.covering_laws.proofs.covered_memory.Firsts.{is_first}
use Rattle.covering_laws.proofs.covered_rows.Targets.{function_there}
use Rattle.covering_laws.specs.covered_state.World.{World, trees_of, view_in, IsFunctionAt}
use Rattle.covered_runs.proofs.covered_steps.covered_effects.Needs.{function_first}
use Rattle.row_covers.specs.Targets.{function_in}

some_one : {X : Type 0} → {x y : X} → ◌≡◌ {A = Option X} (Some x) (Some y) → x ≡ y
some_one h = cc

none_some : {X : Type 0} → {x : X} → ◌≡◌ {A = Option X} None (Some x) → ⊥
none_some h = cc

zip_right : {A B : Type 0} (R : A → B → Type 0) (xs : List A) (ys : List B) (i : ℕ) (y : B) → AllZip R xs ys → slice_get ys i ≡ Some y → (x : A) × (slice_get xs i ≡ Some x) × R x y
zip_right R [] [] i y h at = absurd (none_some at)
zip_right R [] (z ∷ ys) i y h at = absurd h
zip_right R (x ∷ xs) [] i y h at = absurd h
zip_right R (x ∷ xs) (z ∷ ys) zero y h at = (x, refl, subst (R x) (some_one at) h.0)
zip_right R (x ∷ xs) (z ∷ ys) (suc i) y h at = zip_right R xs ys i y h.1 at

-- a numbered element is the element
numbered_back : {X : Type 0} (n : ℕ) (xs : List X) (i : ℕ) (e : ℕ × X) → slice_get (enumerate_from n xs) i ≡ Some e → slice_get xs i ≡ Some e.1
numbered_back n [] i e at = absurd (none_some at)
numbered_back {X = X} n (x ∷ xs) zero e at = ap (λ (z : ℕ × X). let r : Option X = Some z.1 in r) (some_one at)
numbered_back n (x ∷ xs) (suc i) e at = numbered_back (n + 1) xs i e at

module _ (world : World) (valid : IsValid world.system) where
  -- the function of that number has a location, which says so
  pub number_from : (number : ℕ) (key : ObjectKey) → IsFunctionAt world number key → function_in world.system (first_from 0 world.space key) ≡ Some number
  number_from number key at =
      let f = function_there world.program world.space world.system world.is_system number key at in
      let first = function_first (trees_of world) (view_in world) number key at in
      let location : f.0.location ≡ first.0 = f.2.location ∙ ap (λ (o : Option ℕ). unwrap_or o 0) first.1 in
      let within = known number f.0 f.1 in
      let fact = get_or world.system.locations f.0.location plain in
      let there : slice_get world.system.locations f.0.location ≡ Some fact = slice_get-get_or world.system.locations f.0.location plain within in
      let own : fact.function ≡ Some number = ((valid.locations f.0.location fact there).own number f.0 f.1).1 refl in
      ap (function_in world.system) first.1 ∙ (ap (λ (l : ℕ). function_in world.system (Some l)) (sym location) ∙ (ap (option_and_then (λ (x : LocationFact). x.function)) there ∙ own))
    where
      plain : LocationFact
      plain = record { collapsed = false; ty = 0; function = None }

      known : (number : ℕ) (f : Function) → slice_get world.system.functions number ≡ Some f → f.location < length world.system.locations
      known number f at =
          let lt = slice_get_within world.system.functions number f at in
          let own = valid.functions number f lt in
          let same : get_or world.system.functions number f ≡ f = some_one (sym (slice_get-get_or world.system.functions number f lt) ∙ at) in
          subst (λ (x : Function). x.location < length world.system.locations) same own.location

  function_of_fact : (fact : Option LocationFact) (l number : ℕ) → slice_get world.system.locations l ≡ fact → option_and_then (λ (x : LocationFact). x.function) fact ≡ Some number → (f : Function) × (slice_get world.system.functions number ≡ Some f) × (f.location ≡ l)
  function_of_fact None l number at is = absurd (none_some is)
  function_of_fact (Some fact) l number at is =
      let own = valid.locations l fact at in
      let lt : number < length world.system.functions = subst (λ (o : Option ℕ). IfSome o (λ n. n < length world.system.functions)) is own.function in
      let f = get_or world.system.functions number plain in
      let there : slice_get world.system.functions number ≡ Some f = slice_get-get_or world.system.functions number plain lt in
      (f, there, (own.own number f there).0 is)
    where
      plain : Function
      plain = record { location = 0; signature = 0; parameters = []; result = []; library = None; effects = [] }

  -- a function of the system has a key
  pub key_there : (number : ℕ) (f : Function) → slice_get world.system.functions number ≡ Some f → (key : ObjectKey) × IsFunctionAt world number key × (f.location ≡ unwrap_or (first_from 0 world.space key) 0)
  key_there number f at =
      let z = zip_right (λ (entry : ℕ × ObjectKey) (function : Function). IsFunctionFact (trees_of world) (view_in world) entry.0 entry.1 function) (enumerate_from 0 (functions_of (trees_of world) (view_in world))) world.system.functions number f world.is_system.functions at in
      let key : ObjectKey = z.0.1 in
      let here : IsFunctionAt world number key = numbered_back 0 (functions_of (trees_of world) (view_in world)) number z.0 z.1 in
      (key, here, z.2.location)

  -- and what says so is the function of that number
  pub number_to : (number : ℕ) (key : ObjectKey) → function_in world.system (first_from 0 world.space key) ≡ Some number → IsFunctionAt world number key
  number_to number key is = by (first_from 0 world.space key) refl is
    where
      by : (o : Option ℕ) → first_from 0 world.space key ≡ o → function_in world.system o ≡ Some number → IsFunctionAt world number key
      by None e g = absurd (none_some g)
      by (Some l) e g =
          let f = function_of_fact (slice_get world.system.locations l) l number refl g in
          let z = key_there number f.0 f.1 in
          let other : ObjectKey = z.0 in
          let first = function_first (trees_of world) (view_in world) number other z.1 in
          let location : f.0.location ≡ first.0 = z.2 ∙ ap (λ (o : Option ℕ). unwrap_or o 0) first.1 in
          let same_place : first.0 ≡ l = sym location ∙ f.2 in
          let p = (is_first world.space other first.0 first.1).here in
          let q = (is_first world.space key l e).here in
          let place : p.0 ≡ q.0 = some_one (sym p.1 ∙ (ap (slice_get world.space) same_place ∙ q.1)) in
          let same : other ≡ key = sym p.2 ∙ (ap (λ (x : Location). x.key) place ∙ q.2) in
          subst (IsFunctionAt world number) same z.1
