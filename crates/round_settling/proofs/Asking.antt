-- Facts that rules demand are no more than those that constraints ask for.
use Rattle.std.proofs.Common.{◌≡◌, ℕ, zero, suc, ◌+◌, ◌<◌, ◌≤◌, Bool, true, false, cond, ◌&&◌, eqb, Option, Some, None, List, [], ◌∷◌, ◌++◌, length, map, Contains, unwrap_or, refl, sym, ap, ◌∙◌, subst, inl, inr, arith, length-append, eq-eqb}
use Rattle.std.specs.Option.{option_map_or, is_some}
use Rattle.std.specs.List.{flat_map, filter}
use Rattle.std.proofs.lemmas.Bool.{cases_eq, and_from}
use Rattle.std.proofs.lemmas.List.{length-map}
use Rattle.std.proofs.lemmas.List.Concat.{length-flat_map}
use Rattle.std.proofs.lemmas.List.Sums.{length-filter}
use Rattle.pta_base.specs.declared.effect.Effect.{Effect}
use Rattle.pta_base.specs.declared.effect.Effect.TheVariants.{Nothing, GivesArgument, GivesNew, GivesObject, Copies, StoresInto, CallsBack}
use Rattle.sol_model.specs.declared.system.System.{System}
use Rattle.sol_model.specs.declared.system.CallSite.{CallSite}
use Rattle.sol_model.specs.declared.system.Function.{Function}
use Rattle.sol_model.specs.declared.system.Constraint.{Constraint}
use Rattle.sol_model.specs.declared.system.Constraint.TheVariants.{Address, Copy, Load, Store, Field, Contents, Call}
use Rattle.sol_model.specs.Families.{Family, Has}
use Rattle.sol_model.specs.Places.{field_of}
use Rattle.sol_model.specs.Rules.{first_row, DemandsFact, EffectFact, IsTarget, TargetFact}
use Rattle.sol_model.specs.Systems.{IsLocation, location_count}
use Rattle.sol_model.proofs.Members.{Contains-at}
use Rattle.edge_book.specs.Edges.{AreApart}
use Rattle.new_members.specs.News.{IsFact}
use Rattle.round_pieces.specs.Work.{asked_by, count_below, fact_work, fresh_targets, is_target}
use Rattle.round_pieces.proofs.Sums.{In, in_list, list_has, apart_list, length_within, sum_more}

-- the numbers below n that pass a test
abbrev those_below : ℕ → (ℕ → Bool) → List ℕ
those_below zero test = []
those_below (suc n) test = cond (test n) (n ∷ those_below n test) (those_below n test)

those_counted : (n : ℕ) (test : ℕ → Bool) → length (those_below n test) ≡ count_below n test
those_counted zero test = refl
those_counted (suc n) test =
    let rest = those_counted n test in
    elim (test n) as (λ (b : Bool). length (cond b (n ∷ those_below n test) (those_below n test)) ≡ count_below n test + cond b 1 0) [
      | true ↦ omega arith
      | false ↦ omega arith
    ]

in_those : (n l : ℕ) (test : ℕ → Bool) → l < n → test l ≡ true → In l (those_below n test)
in_those zero l test lt t = absurd (omega arith)
in_those (suc n) l test lt t = elim (cases_eq l n) [
  | inl e ↦ (let here : test n ≡ true = ap test (sym e) ∙ t in subst (λ (b : Bool). In l (cond b (n ∷ those_below n test) (those_below n test))) (sym here) (inl e))
  | inr ne ↦ (let rest : In l (those_below n test) = in_those n l test (omega arith) t in
      elim (test n) as (λ (b : Bool). In l (cond b (n ∷ those_below n test) (those_below n test))) [ true ↦ inr rest | false ↦ rest ])
]

in_left : {A : Type 0} (xs ys : List A) (x : A) → In x xs → In x (xs ++ ys)
in_left [] ys x i = absurd i
in_left (y ∷ xs) ys x (inl e) = inl e
in_left (y ∷ xs) ys x (inr i) = inr (in_left xs ys x i)

in_right : {A : Type 0} (xs ys : List A) (x : A) → In x ys → In x (xs ++ ys)
in_right [] ys x i = i
in_right (y ∷ xs) ys x i = inr (in_right xs ys x i)

in_flat : {A B : Type 0} (f : A → List B) (xs : List A) (x : A) (y : B) → In x xs → In y (f x) → In y (flat_map f xs)
in_flat f [] x y i j = absurd i
in_flat {B = B} f (z ∷ xs) x y (inl e) j = in_left (f z) (flat_map f xs) y (subst (λ w. In {A = B} y (f w)) e j)
in_flat f (z ∷ xs) x y (inr i) j = in_right (f z) (flat_map f xs) y (in_flat f xs x y i j)

in_map : {A B : Type 0} (f : A → B) (xs : List A) (x : A) → In x xs → In (f x) (map f xs)
in_map f [] x i = absurd i
in_map f (y ∷ xs) x (inl e) = inl (ap f e)
in_map f (y ∷ xs) x (inr i) = inr (in_map f xs x i)

in_filter : {A : Type 0} (test : A → Bool) (xs : List A) (x : A) → In x xs → test x ≡ true → In x (filter test xs)
in_filter test [] x i t = absurd i
in_filter test (y ∷ xs) x (inl e) t = let here : test y ≡ true = ap test (sym e) ∙ t in subst (λ (b : Bool). In x (cond b (y ∷ filter test xs) (filter test xs))) (sym here) (inl e)
in_filter test (y ∷ xs) x (inr i) t = let rest : In x (filter test xs) = in_filter test xs x i t in
    elim (test y) as (λ (b : Bool). In x (cond b (y ∷ filter test xs) (filter test xs))) [ true ↦ inr rest | false ↦ rest ]

module _ (S : System) (F : Family) where
  -- the facts that a constraint asks for
  abbrev constraint_facts : Constraint → List (ℕ × ℕ)
  constraint_facts (Address row location) = (row, location) ∷ []
  constraint_facts (Copy from to) = []
  constraint_facts (Load pointer to ty sub) = []
  constraint_facts (Store pointer from ty sub) = []
  constraint_facts (Field from to ty member) = map (λ whole. (to, unwrap_or (field_of S whole ty member) 0)) (those_below (location_count S) (λ whole. F from whole && is_some (field_of S whole ty member)))
  constraint_facts (Contents to from) = []
  constraint_facts (Call number) = []

  -- those that a call's fresh targets ask for
  abbrev call_facts : CallSite → List (ℕ × ℕ)
  call_facts call = map (λ pair. (unwrap_or (first_row call.result) 0, pair.1)) (filter (λ pair. is_target S F call pair.0) call.fresh)

  abbrev all_facts : List (ℕ × ℕ)
  all_facts = flat_map constraint_facts S.constraints ++ flat_map call_facts S.calls

  constraint_counted : (constraint : Constraint) → length (constraint_facts constraint) ≤ asked_by S F constraint
  constraint_counted (Address row location) = omega arith
  constraint_counted (Copy from to) = omega arith
  constraint_counted (Load pointer to ty sub) = omega arith
  constraint_counted (Store pointer from ty sub) = omega arith
  constraint_counted (Field from to ty member) =
      let test : ℕ → Bool = λ whole. F from whole && is_some (field_of S whole ty member) in
      let xs : List ℕ = those_below (location_count S) test in
      let f : ℕ → ℕ × ℕ = λ whole. (to, unwrap_or (field_of S whole ty member) 0) in
      let m : length (map f xs) ≡ length xs = length-map xs f in
      let c = those_counted (location_count S) test in
      omega arith
  constraint_counted (Contents to from) = omega arith
  constraint_counted (Call number) = omega arith

  call_counted : (call : CallSite) → length (call_facts call) ≤ fresh_targets S F call
  call_counted call =
      let test : ℕ × ℕ → Bool = λ pair. is_target S F call pair.0 in
      let xs : List (ℕ × ℕ) = filter test call.fresh in
      let f : ℕ × ℕ → ℕ × ℕ = λ pair. (unwrap_or (first_row call.result) 0, pair.1) in
      let m : length (map f xs) ≡ length xs = length-map xs f in
      let c = length-filter test call.fresh in
      omega arith

  all_counted : length all_facts ≤ fact_work S F
  all_counted =
      let whole = length-append (flat_map constraint_facts S.constraints) (flat_map call_facts S.calls) in
      let a = length-flat_map constraint_facts S.constraints in
      let b = length-flat_map call_facts S.calls in
      let x = sum_more (λ (constraint : Constraint). length (constraint_facts constraint)) (asked_by S F) S.constraints constraint_counted in
      let y = sum_more (λ (call : CallSite). length (call_facts call)) (fresh_targets S F) S.calls call_counted in
      omega arith

  reached : (call : CallSite) (number : ℕ) (function : Function) → IsTarget S F call number function → is_target S F call number ≡ true
  reached call number function t =
      subst (λ (o : Option Function). option_map_or (λ f. F call.callee f.location && eqb f.signature call.signature) o false ≡ true) (sym t.known)
      (and_from (F call.callee function.location) (eqb function.signature call.signature) t.reached (eq-eqb function.signature call.signature t.agrees))

  fresh_there : (call : CallSite) (number row location : ℕ) (function : Function) → IsTarget S F call number function → first_row call.result ≡ Some row → Contains call.fresh (number, location) → In (row, location) (call_facts call)
  fresh_there call number row location function t first listed =
      let test : ℕ × ℕ → Bool = λ pair. is_target S F call pair.0 in
      let kept : In (number, location) (filter test call.fresh) = in_filter test call.fresh (number, location) (in_list call.fresh (number, location) listed) (reached call number function t) in
      subst (λ (r : ℕ). In (r, location) (call_facts call)) (ap (λ (o : Option ℕ). unwrap_or o 0) first)
      (in_map (λ (pair : ℕ × ℕ). (unwrap_or (first_row call.result) 0, pair.1)) (filter test call.fresh) (number, location) kept)

  effect_there : (call : CallSite) (number row location : ℕ) (function : Function) (effect : Effect) → IsTarget S F call number function → EffectFact call number effect row location → In (row, location) (call_facts call)
  effect_there call number row location function Nothing t d = absurd d
  effect_there call number row location function (GivesArgument k) t d = absurd d
  effect_there call number row location function GivesNew t d = fresh_there call number row location function t d.0 d.1
  effect_there call number row location function (GivesObject object) t d = fresh_there call number row location function t d.0 d.1
  effect_there call number row location function (Copies i j) t d = absurd d
  effect_there call number row location function (StoresInto i j) t d = absurd d
  effect_there call number row location function (CallsBack k passed) t d = absurd d

  target_there : (call : CallSite) (number row location : ℕ) (function : Function) (library : Option ℕ) → IsTarget S F call number function → TargetFact call number function library row location → In (row, location) (call_facts call)
  target_there call number row location function None t d = absurd d
  target_there call number row location function (Some library) t d = effect_there call number row location function d.0 t d.2

  module _ (range : (row location : ℕ) → Has F row location → IsLocation S location) where
    fact_there : (constraint : Constraint) (row location : ℕ) → Contains S.constraints constraint → DemandsFact S F constraint row location → In (row, location) all_facts
    fact_there (Address to what) row location listed d =
        in_left (flat_map constraint_facts S.constraints) (flat_map call_facts S.calls) (row, location)
        (in_flat constraint_facts S.constraints (Address to what) (row, location) (in_list S.constraints (Address to what) listed) (inl (λ i. (d.0 i, d.1 i))))
    fact_there (Copy from to) row location listed d = absurd d
    fact_there (Load pointer to ty sub) row location listed d = absurd d
    fact_there (Store pointer from ty sub) row location listed d = absurd d
    fact_there (Field from to ty member) row location listed d =
        let whole : ℕ = d.0 in
        let test : ℕ → Bool = λ l. F from l && is_some (field_of S l ty member) in
        let gives : is_some (field_of S whole ty member) ≡ true = ap (λ (o : Option ℕ). is_some o) d.2 in
        let kept : In whole (those_below (location_count S) test) = in_those (location_count S) whole test (range from whole d.1) (and_from (F from whole) (is_some (field_of S whole ty member)) d.1 gives) in
        let there : In (to, unwrap_or (field_of S whole ty member) 0) (constraint_facts (Field from to ty member)) =
        in_map (λ (l : ℕ). (to, unwrap_or (field_of S l ty member) 0)) (those_below (location_count S) test) whole kept in
        let same : unwrap_or (field_of S whole ty member) 0 ≡ location = ap (λ (o : Option ℕ). unwrap_or o 0) d.2 in
        in_left (flat_map constraint_facts S.constraints) (flat_map call_facts S.calls) (row, location)
        (in_flat constraint_facts S.constraints (Field from to ty member) (row, location) (in_list S.constraints (Field from to ty member) listed)
        (subst (λ (p : ℕ × ℕ). In p (constraint_facts (Field from to ty member))) (λ i. (sym d.3 i, same i)) there))
    fact_there (Contents to from) row location listed d = absurd d
    fact_there (Call number) row location listed d =
        in_right (flat_map constraint_facts S.constraints) (flat_map call_facts S.calls) (row, location)
        (in_flat call_facts S.calls d.0 (row, location) (in_list S.calls d.0 (Contains-at S.calls number d.0 d.3)) (target_there d.0 d.1 row location d.2 (d.2).library d.4 d.5))

    -- a list of demanded facts, each once
    pub facts_within : (facts : List (ℕ × ℕ)) → AreApart facts → ((row location : ℕ) → Contains facts (row, location) → IsFact S F row location) → length facts ≤ fact_work S F
    facts_within facts once demanded =
        let few = length_within facts all_facts (apart_list facts once) (λ pair i. let f = demanded pair.0 pair.1 (list_has facts pair i) in fact_there f.0 pair.0 pair.1 f.1 f.2) in
        let all = all_counted in
        omega arith
