-- Rows of one class have equal sets in the least solution.
use Rattle.std.proofs.Common.{◌≡◌, ℕ, ◌&&◌, Bool, true, false, cond, eqb, List, Option, Some, None, slice_get, IsTrue, Contains, refl, sym, ◌∙◌, subst, inl, inr, arith}
use Rattle.std.proofs.lemmas.Bool.{eq-eqb, ne_eqb, cases_eq, and_from, and_parts}
use Rattle.std.proofs.lemmas.Option.{option_and_then_some}
use Rattle.pta_base.specs.declared.effect.Effect.{Effect}
use Rattle.pta_base.specs.declared.effect.Effect.TheVariants.{Nothing, GivesArgument, GivesNew, GivesObject, Copies, StoresInto, CallsBack}
use Rattle.sol_model.specs.declared.system.System.{System}
use Rattle.sol_model.specs.declared.system.CallSite.{CallSite}
use Rattle.sol_model.specs.declared.system.Function.{Function}
use Rattle.sol_model.specs.declared.system.Constraint.{Constraint}
use Rattle.sol_model.specs.declared.system.Constraint.TheVariants.{Address, Copy, Load, Store, Field, Contents, Call}
use Rattle.sol_model.specs.Families.{Family, Has, IsInside}
use Rattle.sol_model.specs.Rules.{PassesBack, EffectEdge, EffectFact, TargetEdge, TargetFact, DemandsEdge, DemandsFact, first_row, parameter_row}
use Rattle.sol_model.specs.Solutions.{IsLeast, IsClosed, IsGiven}
use Rattle.sol_model.specs.Systems.{IsValid, IsRow, IsLocation, IsConstraintValid}
use Rattle.sol_model.specs.Words.{full}
use Rattle.sol_model.proofs.Members.{Contains-at, Contains-zip}
use Rattle.sol_model.proofs.InRange.{sub_location, deep_locations}
use Rattle.sol_model.proofs.Closed.{given_more, closed_has, closed_from_given, least_is_in_range, full_has}
use Rattle.std.proofs.lemmas.List.Elements.{All-contains}
use Rattle.row_share.specs.share_laws.Classes.{adds_to, IsInParameter, Follows, IsCopy, Reaches, AreTogether}
use Rattle.row_share.specs.share_laws.Laws.{HaveEqualSets}
use Rattle.row_share.proofs.share_laws.Members.{in_filter, from_filter, only_one}

pub same_tests : (a b : Bool) → (IsTrue a → IsTrue b) → (IsTrue b → IsTrue a) → a ≡ b
same_tests true b h k = sym (h refl)
same_tests false true h k = k refl
same_tests false false h k = refl

-- along copies sets only grow
pub reached_has : (S : System) (F : Family) → IsClosed S F → (a b location : ℕ) → Reaches S a b → Has F a location → Has F b location
reached_has S F closed a b location path h =
    path (λ row. F row location) (λ from to copy has. (closed (Copy from to) copy).edges from to (refl, refl) location has) h

-- the copy of a row that follows another
pub its_copy : (S : System) (row from : ℕ) → Follows S row from → IsCopy S from row
its_copy S row from follows = (from_filter (adds_to row) S.constraints (Copy from row)
    (subst (λ (cs : List Constraint). Contains cs (Copy from row)) (sym follows.alone) (0, omega arith, refl))).0

-- the one constraint that adds to it
pub its_adding : (S : System) (row from : ℕ) → Follows S row from → (constraint : Constraint) → Contains S.constraints constraint → adds_to row constraint ≡ true → constraint ≡ Copy from row
its_adding S row from follows constraint there adds =
    only_one (Copy from row) constraint (subst (λ (cs : List Constraint). Contains cs constraint) follows.alone (in_filter (adds_to row) S.constraints constraint there adds))

from_of : Constraint → ℕ
from_of (Copy from to) = from
from_of _ = 0

first_in : (rows : List ℕ) (row : ℕ) → first_row rows ≡ Some row → Contains rows row
first_in rows row h = Contains-at rows 0 row h

parameter_in : (functions : List Function) (number : ℕ) (function : Function) (k row : ℕ) → slice_get functions number ≡ Some function → parameter_row function k ≡ Some row → IsInParameter functions row
parameter_in functions number function k row known h =
    option_and_then_some first_row (slice_get function.parameters k) row h
    (λ rows at first. (function, rows, Contains-at functions number function known, Contains-at function.parameters k rows at, first_in rows row first))

module _ (S : System) (valid : IsValid S) (row from : ℕ) (follows : Follows S row from) (K : Family) (range : (r location : ℕ) → Has K r location → IsRow S r × IsLocation S location) where
  no_location : IsLocation S row → ⊥
  no_location h = let i = follows.inner in omega arith

  passed_to : (number : ℕ) (function : Function) (call : CallSite) (passed : Option (ℕ × ℕ)) (a : ℕ) → slice_get S.functions number ≡ Some function → PassesBack call passed function a row → ⊥
  passed_to number function call None a known h = h
  passed_to number function call (Some pair) a known h = elim h.1 [
    | inl p ↦ follows.no_parameter (parameter_in S.functions number function 0 row known p.1)
    | inr p ↦ follows.no_parameter (parameter_in S.functions number function 1 row known p.1)
  ]

  effect_to : (place : ℕ) (call : CallSite) (number : ℕ) (effect : Effect) (a : ℕ) → slice_get S.calls place ≡ Some call → EffectEdge S K call number effect a row → ⊥
  effect_to place call number Nothing a known h = h
  effect_to place call number (GivesArgument k) a known h = follows.no_result (call, Contains-at S.calls place call known, first_in call.result row h.1)
  effect_to place call number GivesNew a known h = h
  effect_to place call number (GivesObject object) a known h = h
  effect_to place call number (Copies i j) a known h = no_location (deep_locations S valid h.0 h.1 row a h.4).0
  effect_to place call number (StoresInto i j) a known h = no_location (range h.0 row h.2).1
  effect_to place call number (CallsBack k passed) a known h = passed_to h.0 h.1 call passed a h.2.known h.3

  target_to : (place : ℕ) (call : CallSite) (number : ℕ) (function : Function) (library : Option ℕ) (a : ℕ) → slice_get S.calls place ≡ Some call → slice_get S.functions number ≡ Some function → TargetEdge S K call number function library a row → ⊥
  target_to place call number function None a known here h = elim h [
    | inl joined ↦ (let outer = Contains-zip call.arguments function.parameters joined.0.0 joined.0.1 joined.1 in
        let inner = Contains-zip joined.0.0 joined.0.1 a row joined.2 in
        follows.no_parameter (function, joined.0.1, Contains-at S.functions number function here, outer.1, inner.1))
    | inr pair ↦ follows.no_result (call, Contains-at S.calls place call known, (Contains-zip function.result call.result a row pair).1)
  ]
  target_to place call number function (Some library) a known here h = effect_to place call number h.0 a known h.2

  -- whatever rule demands that something is contained in the row is the copy's
  edge_to : (constraint : Constraint) (a : ℕ) → Contains S.constraints constraint → IsConstraintValid S constraint → DemandsEdge S K constraint a row → a ≡ from
  edge_to (Address to location) a there ok h = absurd h
  edge_to (Copy source to) a there ok h =
      let e = its_adding S row from follows (Copy source to) there (eq-eqb to row (sym h.1)) in
      h.0 ∙ (let s : source ≡ from = cc in s)
  edge_to (Load pointer to ty sub) a there ok h =
      let e = its_adding S row from follows (Load pointer to ty sub) there (eq-eqb to row (sym h.3)) in cc
  edge_to (Store pointer source ty sub) a there ok h = absurd (no_location (sub_location S valid h.0 ty sub row ok.2 h.2))
  edge_to (Field source to ty member) a there ok h = absurd h
  edge_to (Contents to source) a there ok h = absurd (no_location (deep_locations S valid h.0 h.1 row a h.4).0)
  edge_to (Call number) a there ok h = absurd (target_to number h.0 h.1 h.2 (h.2).library a h.3 h.4.known h.5)

  effect_fact : (place : ℕ) (call : CallSite) (number : ℕ) (effect : Effect) (location : ℕ) → slice_get S.calls place ≡ Some call → EffectFact call number effect row location → ⊥
  effect_fact place call number Nothing location known h = h
  effect_fact place call number (GivesArgument k) location known h = h
  effect_fact place call number GivesNew location known h = follows.no_result (call, Contains-at S.calls place call known, first_in call.result row h.0)
  effect_fact place call number (GivesObject object) location known h = follows.no_result (call, Contains-at S.calls place call known, first_in call.result row h.0)
  effect_fact place call number (Copies i j) location known h = h
  effect_fact place call number (StoresInto i j) location known h = h
  effect_fact place call number (CallsBack k passed) location known h = h

  target_fact : (place : ℕ) (call : CallSite) (number : ℕ) (function : Function) (library : Option ℕ) (location : ℕ) → slice_get S.calls place ≡ Some call → TargetFact call number function library row location → ⊥
  target_fact place call number function None location known h = h
  target_fact place call number function (Some library) location known h = effect_fact place call number h.0 location known h.2

  -- and no rule demands a fact of it
  fact_to : (constraint : Constraint) (location : ℕ) → Contains S.constraints constraint → DemandsFact S K constraint row location → ⊥
  fact_to (Address to what) location there h =
      let e = its_adding S row from follows (Address to what) there (eq-eqb to row (sym h.0)) in cc
  fact_to (Copy source to) location there h = h
  fact_to (Load pointer to ty sub) location there h = h
  fact_to (Store pointer source ty sub) location there h = h
  fact_to (Field source to ty member) location there h =
      let e = its_adding S row from follows (Field source to ty member) there (eq-eqb to row (sym h.3)) in cc
  fact_to (Contents to source) location there h = h
  fact_to (Call number) location there h = target_fact number h.0 h.1 h.2 (h.2).library location h.3 h.5

  pub given_to : (location : ℕ) → IsGiven S K row location → Has K from location
  given_to location given =
      let ok = All-contains (IsConstraintValid S) S.constraints given.0 valid.constraints given.1 in
      elim given.2 [
        | inl fact ↦ absurd (fact_to given.0 location given.1 fact)
        | inr edge ↦ subst (λ (a : ℕ). Has K a location) (edge_to given.0 edge.0 given.1 ok edge.1) edge.2
      ]

-- the family with the row's set cut down to that of another
abbrev pub cut : Family → ℕ → ℕ → Family
cut F row from = λ r location. cond (eqb r row) (F r location && F from location) (F r location)

pub cut_inside : (F : Family) (row from : ℕ) → IsInside (cut F row from) F
cut_inside F row from r location h = inside (eqb r row) (F r location) (F from location) h
  where
    inside : (t x y : Bool) → IsTrue (cond t (x && y) x) → IsTrue x
    inside true true y h = refl
    inside true false y h = h
    inside false x y h = h

module _ (S : System) (F : Family) (valid : IsValid S) (closed : IsClosed S F) (range : IsInside F (full S)) (row from : ℕ) (follows : Follows S row from) where
  pub cut_closed : IsClosed S (cut F row from)
  cut_closed = closed_from_given S (cut F row from) (λ r location given.
      let had = closed_has S F closed r location (given_more S (cut F row from) F (cut_inside F row from) r location given) in
      elim (cases_eq r row) [
        | inl same ↦ (let here : IsGiven S (cut F row from) row location = subst (λ (q : ℕ). IsGiven S (cut F row from) q location) same given in
            let k = given_to S valid row from follows (cut F row from) (λ q l h. full_has S q l (range q l (cut_inside F row from q l h))) location here in
            let more = cut_inside F row from from location k in
            subst (λ (b : Bool). IsTrue (cond b (F r location && F from location) (F r location))) (sym (eq-eqb r row same)) (and_from (F r location) (F from location) had more))
        | inr other ↦ subst (λ (b : Bool). IsTrue (cond b (F r location && F from location) (F r location))) (sym (ne_eqb r row other)) had
      ])

module _ (S : System) (F : Family) (valid : IsValid S) (least : IsLeast S F) (row from : ℕ) (follows : Follows S row from) where
  follower_in : (location : ℕ) → Has F row location → Has F from location
  follower_in location h =
      let k = least.below (cut F row from) (cut_closed S F valid least.closed (least_is_in_range S F valid least) row from follows) row location h in
      (and_parts (F row location) (F from location) (subst (λ (b : Bool). IsTrue (cond b (F row location && F from location) (F row location))) (eq-eqb row row refl) k)).1

  pub follower_same : HaveEqualSets F row from
  follower_same location = same_tests (F row location) (F from location) (follower_in location)
      ((least.closed (Copy from row) (its_copy S row from follows)).edges from row (refl, refl) location)

pub together_same : (S : System) (F : Family) (a b : ℕ) → IsValid S → IsLeast S F → AreTogether S a b → HaveEqualSets F a b
together_same S F a b valid least together location = together (λ row. F row location) (record {
  followed = λ row from follows. follower_same S F valid least row from follows location;
  cycles = λ x y there back. same_tests (F x location) (F y location) (reached_has S F least.closed x y location there) (reached_has S F least.closed y x location back);
})
