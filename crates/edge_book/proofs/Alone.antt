-- What rules demand where one row has one location, and no other row has any.
use Rattle.std.proofs.Common.{◌≡◌, ◌≢◌, ◌↔◌, ℕ, true, eqb, List, [], ◌∷◌, AllPairs, Contains, Option, Some, None, slice_get, get_or, Result, Ok, Err, OnErr, refl, sym, ap, ◌∙◌, subst, inl, inr, arith, eqb-true, eq-eqb}
use Rattle.std.specs.List.Sorted.{IsStrictlySortedBy}
use Rattle.std.proofs.lemmas.Bool.{and_parts, and_from, cases_lt}
use Rattle.std.proofs.lemmas.List.{append-nil}
use Rattle.std.proofs.lemmas.Option.{none-some, same_Some, slice_get_within, slice_get-get_or, get_or_from_slice_get}
use Rattle.sol_model.specs.declared.system.System.{System}
use Rattle.sol_model.specs.declared.system.LocationFact.{LocationFact}
use Rattle.sol_model.specs.declared.system.CallSite.{CallSite}
use Rattle.sol_model.specs.declared.system.Function.{Function}
use Rattle.sol_model.specs.declared.system.Constraint.{Constraint}
use Rattle.sol_model.specs.declared.system.Constraint.TheVariants.{Load, Store, Call}
use Rattle.sol_model.specs.Families.{Family, Has}
use Rattle.sol_model.specs.Places.{sub_of}
use Rattle.sol_model.specs.Rules.{IsTarget, EffectEdge, PassesBack, TargetEdge, DemandsEdge}
use Rattle.pta_base.specs.declared.effect.Effect.TheVariants.{CallsBack}
use Rattle.sol_model.specs.Systems.{IsValid, IsLocation}
use Rattle.sol_model.proofs.Members.{at_Contains, Contains-at}
use Rattle.edge_book.specs.Edges.{only, pair_order, ArePairsOf, Gains, TakesFirst}
use Rattle.edge_book.proofs.Pairs.{none_ordered, one_ordered}

pub only_has : (r l row location : ℕ) → Has (only r l) row location → (row ≡ r) × (location ≡ l)
only_has r l row location h = let p = and_parts (eqb row r) (eqb location l) h in (eqb-true row r p.0, eqb-true location l p.1)

pub has_only : (r l : ℕ) → Has (only r l) r l
has_only r l = and_from (eqb r r) (eqb l l) (eq-eqb r r refl) (eq-eqb l l refl)

contains_one : (x y : ℕ × ℕ) → Contains (x ∷ []) y → y ≡ x
contains_one x y h =
    let w = at_Contains (x ∷ []) y h in
    let first : w.0 ≡ 0 = (let lt = w.1 in omega arith) in
    same_Some y x (sym w.2 ∙ ap (slice_get (x ∷ [])) first)

-- the one pair of a Load or a Store, or none
pub load_some : (S : System) (p t y s p' t' y' s' location node : ℕ) → ◌≡◌ {A = Constraint} (Load p' t' y' s') (Load p t y s) → sub_of S location y' s' ≡ Some node → ArePairsOf S (only p location) (Load p t y s) ((node, t') ∷ [])
load_some S p t y s p' t' y' s' location node same at =
    let et : t' ≡ t = cc in
    let ey : y' ≡ y = cc in
    let es : s' ≡ s = cc in
    let here : sub_of S location y s ≡ Some node = (λ i. sub_of S location (sym ey i) (sym es i)) ∙ at in record {
      all = λ a b. (
        λ h. let e = contains_one (node, t') (a, b) h in (location, has_only p location, here ∙ ap (λ (x : ℕ × ℕ). Some x.0) (sym e), ap (λ (x : ℕ × ℕ). x.1) e ∙ et),
        λ h. Contains-at ((node, t') ∷ []) 0 (a, b) (let o = only_has p location p h.0 h.1 in
            let first : a ≡ node = same_Some a node (sym h.2 ∙ ap (λ l. sub_of S l y s) o.1 ∙ here) in λ i. Some (sym first i, sym (h.3 ∙ sym et) i)),
      );
      order = one_ordered (node, t');
    }

pub load_none : (S : System) (p t y s p' t' y' s' location : ℕ) → ◌≡◌ {A = Constraint} (Load p' t' y' s') (Load p t y s) → sub_of S location y' s' ≡ None → ArePairsOf S (only p location) (Load p t y s) []
load_none S p t y s p' t' y' s' location same at =
    let ey : y' ≡ y = cc in
    let es : s' ≡ s = cc in
    let here : sub_of S location y s ≡ None = (λ i. sub_of S location (sym ey i) (sym es i)) ∙ at in record {
      all = λ a b. (
        λ h. absurd (let l = h.1 in omega arith),
        λ h. absurd (let o = only_has p location p h.0 h.1 in none-some a (sym here ∙ ap (λ l. sub_of S l y s) (sym o.1) ∙ h.2)),
      );
      order = none_ordered;
    }

pub store_some : (S : System) (p f y s p' f' y' s' location node : ℕ) → ◌≡◌ {A = Constraint} (Store p' f' y' s') (Store p f y s) → sub_of S location y' s' ≡ Some node → ArePairsOf S (only p location) (Store p f y s) ((f', node) ∷ [])
store_some S p f y s p' f' y' s' location node same at =
    let ef : f' ≡ f = cc in
    let ey : y' ≡ y = cc in
    let es : s' ≡ s = cc in
    let here : sub_of S location y s ≡ Some node = (λ i. sub_of S location (sym ey i) (sym es i)) ∙ at in record {
      all = λ a b. (
        λ h. let e = contains_one (f', node) (a, b) h in (location, has_only p location, here ∙ ap (λ (x : ℕ × ℕ). Some x.1) (sym e), ap (λ (x : ℕ × ℕ). x.0) e ∙ ef),
        λ h. Contains-at ((f', node) ∷ []) 0 (a, b) (let o = only_has p location p h.0 h.1 in
            let first : b ≡ node = same_Some b node (sym h.2 ∙ ap (λ l. sub_of S l y s) o.1 ∙ here) in λ i. Some (sym (h.3 ∙ sym ef) i, sym first i)),
      );
      order = one_ordered (f', node);
    }

pub store_none : (S : System) (p f y s p' f' y' s' location : ℕ) → ◌≡◌ {A = Constraint} (Store p' f' y' s') (Store p f y s) → sub_of S location y' s' ≡ None → ArePairsOf S (only p location) (Store p f y s) []
store_none S p f y s p' f' y' s' location same at =
    let ey : y' ≡ y = cc in
    let es : s' ≡ s = cc in
    let here : sub_of S location y s ≡ None = (λ i. sub_of S location (sym ey i) (sym es i)) ∙ at in record {
      all = λ a b. (
        λ h. absurd (let l = h.1 in omega arith),
        λ h. absurd (let o = only_has p location p h.0 h.1 in none-some b (sym here ∙ ap (λ l. sub_of S l y s) (sym o.1) ∙ h.2)),
      );
      order = none_ordered;
    }

-- two that are the same constraint
pub same_constraint : (S : System) (number : ℕ) (one other three : Constraint) → slice_get S.constraints number ≡ Some one → one ≡ other → slice_get S.constraints number ≡ Some three → other ≡ three
same_constraint S number one other three at is there = sym is ∙ same_Some one three (sym at ∙ there)

-- a book that stayed took in the first none of any pairs
pub none_taken : (S : System) (F : Family) (constraint : Constraint) (old new pairs : List (ℕ × ℕ)) → ArePairsOf S F constraint pairs → new ≡ old → TakesFirst S F constraint old new
none_taken S F constraint old new pairs demanded e = record { pairs = pairs; demanded = demanded; count = 0; book = e ∙ sym (append-nil old) }

pub on_err : {A E : Type 0} (r : Result A E) (P : Type 0) → P → OnErr r P
on_err (Ok v) P p = tt
on_err (Err e) P p = p

-- the objects that a call gets, of which each library function gives one at most
pub fresh_here : (fresh : List (ℕ × ℕ)) (number i : ℕ) (pair : ℕ × ℕ) → AllPairs (λ one other. one.0 ≢ other.0) fresh → slice_get fresh i ≡ Some pair → pair.0 ≡ number → (object : ℕ) → Contains fresh (number, object) ↔ (Some pair.1 ≡ Some object)
fresh_here fresh number i pair once at e object = (
  λ h. let w = at_Contains fresh (number, object) h in elim (cases_lt w.0 i) [
    | inl lt ↦ absurd (once w.0 i pair lt (slice_get_within fresh i pair at)
        (ap (λ (x : ℕ × ℕ). x.0) (get_or_from_slice_get fresh w.0 (number, object) pair w.2) ∙ sym e ∙ ap (λ (x : ℕ × ℕ). x.0) (sym (get_or_from_slice_get fresh i pair pair at))))
    | inr ge ↦ elim (cases_lt i w.0) [
      | inl lt ↦ absurd (once i w.0 pair lt w.1
          (ap (λ (x : ℕ × ℕ). x.0) (get_or_from_slice_get fresh i pair pair at) ∙ e ∙ ap (λ (x : ℕ × ℕ). x.0) (sym (get_or_from_slice_get fresh w.0 (number, object) pair w.2))))
      | inr le ↦ (let same : i ≡ w.0 = omega arith in
          let both : pair ≡ (number, object) = same_Some pair (number, object) (sym at ∙ ap (slice_get fresh) same ∙ w.2) in ap (λ (x : ℕ × ℕ). Some x.1) both)
    ]
  ],
  λ h. Contains-at fresh i (number, object) (at ∙ (let o = same_Some pair.1 object h in λ k. Some (e k, o k))),
)

-- the function of a location is the only target
pub the_target : (S : System) (valid : IsValid S) (site : CallSite) (location target : ℕ) (fact : LocationFact) (function : Function) → slice_get S.locations location ≡ Some fact → IsTarget S (only site.callee location) site target function → (fact.function ≡ Some target) × (function.location ≡ location)
the_target S valid site location target fact function at t =
    let here : function.location ≡ location = (only_has site.callee location site.callee function.location t.reached).1 in
    (((valid.locations location fact at).own target function t.known).1 here, here)

-- what a call demands comes from the function of the location
pub call_target : (S : System) (valid : IsValid S) (number location : ℕ) (site : CallSite) (fact : LocationFact) (a b : ℕ) → slice_get S.calls number ≡ Some site → slice_get S.locations location ≡ Some fact
    → DemandsEdge S (only site.callee location) (Call number) a b
    → (target : ℕ) × (function : Function) × (fact.function ≡ Some target) × (function.location ≡ location) × (slice_get S.functions target ≡ Some function) × (function.signature ≡ site.signature) × TargetEdge S (only site.callee location) site target function function.library a b
call_target S valid number location site fact a b at of d =
    let same : d.0 ≡ site = same_Some d.0 site (sym d.3 ∙ at) in
    let t : IsTarget S (only site.callee location) site d.1 d.2 = subst (λ (s : CallSite). IsTarget S (only site.callee location) s d.1 d.2) same d.4 in
    let edge : TargetEdge S (only site.callee location) site d.1 d.2 (d.2).library a b = subst (λ (s : CallSite). TargetEdge S (only site.callee location) s d.1 d.2 (d.2).library a b) same d.5 in
    let where_is = the_target S valid site location d.1 fact d.2 of t in
    (d.1, d.2, where_is.0, where_is.1, t.known, t.agrees, edge)

-- gathered pairs in order
pub ordered_pairs : (S : System) (F : Family) (constraint : Constraint) (gathered ordered none : List (ℕ × ℕ)) → none ≡ [] → Gains none gathered (DemandsEdge S F constraint)
    → ((pair : ℕ × ℕ) → (Contains ordered pair → Contains gathered pair) × (Contains gathered pair → Contains ordered pair)) → IsStrictlySortedBy pair_order ordered → ArePairsOf S F constraint ordered
ordered_pairs S F constraint gathered ordered none e gains same order = record {
  all = λ a b. (
    λ h. elim ((gains a b).0 ((same (a, b)).0 h)) [ inl o ↦ absurd (let x = subst (λ (xs : List (ℕ × ℕ)). Contains xs (a, b)) e o in let l = x.1 in omega arith) | inr d ↦ d ],
    λ d. (same (a, b)).1 ((gains a b).1 (inr d)),
  );
  order = order;
}

-- the only function that a call back may reach is the library function itself, which passes nothing on
pub no_call_back : (S : System) (valid : IsValid S) (call : CallSite) (number location library k : ℕ) (passed : Option (ℕ × ℕ)) (function : Function) (a b : ℕ)
    → IsLocation S location → slice_get S.functions number ≡ Some function → function.location ≡ location → function.library ≡ Some library
    → EffectEdge S (only call.callee location) call number (CallsBack k passed) a b → ⊥
no_call_back S valid call number location library k passed function a b known at here is edge =
    let called : Function = edge.1 in
    let reached = edge.2.reached in
    let there : called.location ≡ location = (only_has call.callee location reached.0 called.location reached.2).1 in
    let fact : LocationFact = get_or S.locations location (record { collapsed = true; ty = 0; function = None }) in
    let of : slice_get S.locations location ≡ Some fact = slice_get-get_or S.locations location (record { collapsed = true; ty = 0; function = None }) known in
    let own = (valid.locations location fact of).own in
    let first : fact.function ≡ Some number = (own number function at).1 here in
    let second : fact.function ≡ Some edge.0 = (own edge.0 called edge.2.known).1 there in
    let same : number ≡ edge.0 = same_Some number edge.0 (sym first ∙ second) in
    let one : function ≡ called = same_Some function called (sym at ∙ ap (slice_get S.functions) same ∙ edge.2.known) in
    passes passed edge.3 (ap (λ (f : Function). f.library) (sym one) ∙ is)
  where
    passes : (p : Option (ℕ × ℕ)) → PassesBack call p edge.1 a b → (edge.1).library ≡ Some library → ⊥
    passes None h e = h
    passes (Some pair) h e = none-some library (sym h.0 ∙ e)
