-- The work of the worked system without edges.
use Rattle.std.proofs.Common.{◌≡◌, ◌⊎◌, Bool, ℕ, zero, suc, ◌&&◌, true, [], ◌∷◌, slice_get, Some, refl, sym, ap, subst, inl, inr, arith, eqb-true}
use Rattle.std.specs.Prelude.{◌==◌, ◌||◌}
use Rattle.std.proofs.lemmas.Bool.{and_parts, or_cases}
use Rattle.std.proofs.lemmas.Option.{same_Some, none-some}
use Rattle.pta_base.specs.declared.effect.Effect.{Effect}
use Rattle.pta_base.specs.declared.effect.Effect.TheVariants.{GivesNew}
use Rattle.sol_model.specs.declared.system.Constraint.{Constraint}
use Rattle.sol_model.specs.declared.system.CallSite.{CallSite}
use Rattle.sol_model.specs.declared.system.Function.{Function}
use Rattle.sol_model.specs.declared.system.Constraint.TheVariants.{Address, Field, Call}
use Rattle.sol_model.specs.Families.{Family, Has}
use Rattle.sol_model.specs.Places.{field_of}
use Rattle.sol_model.specs.Rules.{DemandsEdge, EffectEdge, TargetEdge, EffectFact, TargetFact, IsTarget, Satisfies}
use Rattle.sol_model.specs.Solutions.{IsClosed}
use Rattle.sol_model.proofs.Members.{Contains-at}
use Rattle.work_rounds.specs.Gift.{gift, gift_sets, library, the_call, GiftWork}
use Rattle.round_pieces.proofs.Sums.{In, in_list, list_has, list_apart}

no_effect : (call : CallSite) (target a b : ℕ) (effect : Effect) → In effect (GivesNew ∷ []) → EffectEdge gift gift_sets call target effect a b → ⊥
no_effect call target a b effect (inl e) d = subst (λ (x : Effect). EffectEdge gift gift_sets call target x a b) e d
no_effect call target a b effect (inr none) d = none

no_target : (call : CallSite) (target a b : ℕ) (function : Function) → In function (library ∷ []) → TargetEdge gift gift_sets call target function function.library a b → ⊥
no_target call target a b function (inl e) d =
    let here = subst (λ (f : Function). TargetEdge gift gift_sets call target f f.library a b) e d in
    no_effect call target a b here.0 (in_list (GivesNew ∷ []) here.0 here.1) here.2
no_target call target a b function (inr none) d = none

no_edge : (constraint : Constraint) (a b : ℕ) → In constraint gift.constraints → DemandsEdge gift gift_sets constraint a b → ⊥
no_edge constraint a b (inl e) d = subst (λ (c : Constraint). DemandsEdge gift gift_sets c a b) e d
no_edge constraint a b (inr (inl e)) d = subst (λ (c : Constraint). DemandsEdge gift gift_sets c a b) e d
no_edge constraint a b (inr (inr (inl e))) d = subst (λ (c : Constraint). DemandsEdge gift gift_sets c a b) e d
no_edge constraint a b (inr (inr (inr (inl e)))) d =
    let here = subst (λ (c : Constraint). DemandsEdge gift gift_sets c a b) e d in
    no_target here.0 here.1 a b here.2 (in_list gift.functions here.2 (Contains-at gift.functions here.1 here.2 here.4.known)) here.5
no_edge constraint a b (inr (inr (inr (inr none)))) d = none

-- the facts of the sets: one is that row and that location
abbrev IsAt : ℕ → ℕ → ℕ → ℕ → Type 0
IsAt row location r l = (row ≡ r) × (location ≡ l)

at_pair : (row location r l : ℕ) → ((row == r) && (location == l)) ≡ true → IsAt row location r l
at_pair row location r l h = let p = and_parts (row == r) (location == l) h in (eqb-true row r p.0, eqb-true location l p.1)

facts : (row location : ℕ) → Has gift_sets row location → IsAt row location 2 0 ⊎ (IsAt row location 5 1 ⊎ (IsAt row location 6 3 ⊎ IsAt row location 7 4))
facts row location h =
    let a : Bool = (row == 2) && (location == 0) in
    let b : Bool = (row == 5) && (location == 1) in
    let c : Bool = (row == 6) && (location == 3) in
    let d : Bool = (row == 7) && (location == 4) in
    elim (or_cases ((a || b) || c) d h) [
      | inr last ↦ inr (inr (inr (at_pair row location 7 4 last)))
      | inl three ↦ elim (or_cases (a || b) c three) [
        | inr third ↦ inr (inr (inl (at_pair row location 6 3 third)))
        | inl two ↦ elim (or_cases a b two) [
          | inr second ↦ inr (inl (at_pair row location 5 1 second))
          | inl first ↦ inl (at_pair row location 2 0 first)
        ]
      ]
    ]

two_has : (l : ℕ) → Has gift_sets 2 l → l ≡ 0
two_has l h = elim (facts 2 l h) [
  | inl e ↦ e.1
  | inr more ↦ elim more [
    | inl e ↦ absurd (let n = e.0 in omega arith)
    | inr rest ↦ elim rest [ inl e ↦ absurd (let n = e.0 in omega arith) | inr e ↦ absurd (let n = e.0 in omega arith) ]
  ]
]

first_function : (n : ℕ) (f : Function) → slice_get gift.functions n ≡ Some f → (n ≡ 0) × (library ≡ f)
first_function zero f h = (refl, same_Some library f h)
first_function (suc n) f h = absurd (none-some f h)

member_met : Satisfies gift gift_sets (Field 2 5 1 0)
member_met = record {
  edges = λ a b d. absurd d;
  facts = λ row location d.
      let whole_is : d.0 ≡ 0 = two_has d.0 d.1 in
      let at : field_of gift 0 1 0 ≡ Some location = subst (λ (n : ℕ). field_of gift n 1 0 ≡ Some location) whole_is d.2 in
      let is : 1 ≡ location = same_Some 1 location at in
      subst (λ (r : ℕ). Has gift_sets r location) (sym d.3) (subst (Has gift_sets 5) is refl);
}

address_met : (row location : ℕ) → Has gift_sets row location → Satisfies gift gift_sets (Address row location)
address_met row location has = record {
  edges = λ a b d. absurd d;
  facts = λ to what d. subst (λ (r : ℕ). Has gift_sets r what) (sym d.0) (subst (Has gift_sets row) (sym d.1) has);
}

call_met : Satisfies gift gift_sets (Call 0)
call_met = record {
  edges = λ a b d. absurd (no_edge (Call 0) a b (inr (inr (inr (inl refl)))) d);
  facts = λ row location d. given d.0 (same_Some the_call d.0 d.3) d.1 d.2 row location d.4 d.5;
}
  where
    gives : (target row location : ℕ) (effect : Effect) → In effect (GivesNew ∷ []) → target ≡ 0 → EffectFact the_call target effect row location → Has gift_sets row location
    gives target row location effect (inl e) zero_is fact =
        let new = subst (λ (x : Effect). EffectFact the_call target x row location) e fact in
        let row_is : 7 ≡ row = same_Some 7 row new.0 in
        let pair = in_list ((0, 4) ∷ []) (target, location) new.1 in
        elim pair [
          | inl p ↦ subst (λ (r : ℕ). Has gift_sets r location) row_is (subst (Has gift_sets 7) (sym (ap (λ (x : ℕ × ℕ). x.1) p)) refl)
          | inr none ↦ absurd none
        ]
    gives target row location effect (inr none) zero_is fact = absurd none

    given : (call : CallSite) → the_call ≡ call → (target : ℕ) (function : Function) (row location : ℕ) → IsTarget gift gift_sets call target function → TargetFact call target function function.library row location → Has gift_sets row location
    given call e target function row location is fact =
        let f = first_function target function is.known in
        let at_call = subst (λ (c : CallSite). TargetFact c target function function.library row location) (sym e) fact in
        let here = subst (λ (x : Function). TargetFact the_call target x x.library row location) (sym f.1) at_call in
        gives target row location here.0 (in_list (GivesNew ∷ []) here.0 here.1) f.0 here.2

gift_closed : IsClosed gift gift_sets
gift_closed constraint listed = met (in_list gift.constraints constraint listed)
  where
    met : In constraint gift.constraints → Satisfies gift gift_sets constraint
    met (inl e) = subst (Satisfies gift gift_sets) (sym e) (address_met 2 0 refl)
    met (inr (inl e)) = subst (Satisfies gift gift_sets) (sym e) member_met
    met (inr (inr (inl e))) = subst (Satisfies gift gift_sets) (sym e) (address_met 6 3 refl)
    met (inr (inr (inr (inl e)))) = subst (Satisfies gift gift_sets) (sym e) call_met
    met (inr (inr (inr (inr none)))) = absurd none

module _ (G : Family) (closed : IsClosed gift G) where
  pointer_has : Has G 2 0
  pointer_has = (closed (Address 2 0) (list_has gift.constraints (Address 2 0) (inl refl))).facts 2 0 (refl, refl)

  member_has : Has G 5 1
  member_has = (closed (Field 2 5 1 0) (list_has gift.constraints (Field 2 5 1 0) (inr (inl refl)))).facts 5 1 (0, pointer_has, refl, refl)

  function_has : Has G 6 3
  function_has = (closed (Address 6 3) (list_has gift.constraints (Address 6 3) (inr (inr (inl refl))))).facts 6 3 (refl, refl)

  object_has : Has G 7 4
  object_has = (closed (Call 0) (list_has gift.constraints (Call 0) (inr (inr (inr (inl refl)))))).facts 7 4
      (the_call, 0, library, refl, record { known = refl; reached = function_has; agrees = refl }, (GivesNew, list_has (GivesNew ∷ []) GivesNew (inl refl), (refl, list_has ((0, 4) ∷ []) (0, 4) (inl refl))))

  gift_within : (row location : ℕ) → Has gift_sets row location → Has G row location
  gift_within row location h = elim (facts row location h) [
    | inl e ↦ moved row location 2 0 e pointer_has
    | inr more ↦ elim more [
      | inl e ↦ moved row location 5 1 e member_has
      | inr rest ↦ elim rest [ inl e ↦ moved row location 6 3 e function_has | inr e ↦ moved row location 7 4 e object_has ]
    ]
  ]
    where
      moved : (row location r l : ℕ) → IsAt row location r l → Has G r l → Has G row location
      moved row location r l e has = subst (λ (n : ℕ). Has G n location) (sym e.0) (subst (Has G r) (sym e.1) has)

pub gift_work : GiftWork
gift_work = (
  record { closed = gift_closed; below = λ G closed row location h. gift_within G closed row location h },
  record {
    edges = [];
    once = list_apart {A = ℕ × ℕ} [] tt;
    all = λ a b. (λ c. absurd (let l = c.1 in omega arith), λ e. absurd (no_edge e.0 a b (in_list gift.constraints e.0 e.1) e.2));
    sum = refl;
  },
)
