-- Lists that gain the pairs of a relation, step by step.
use Rattle.std.proofs.Common.{◌≡◌, ◌↔◌, ℕ, ◌+◌, ◌<◌, ◌≤◌, ◌⊎◌, zero, suc, List, [], ◌∷◌, ◌++◌, length, get_or, Option, Some, IsSome, slice_get, Contains, refl, sym, ◌∙◌, ap, subst, inl, inr, arith}
use Rattle.std.proofs.lemmas.Bool.{cases_lt}
use Rattle.std.proofs.lemmas.Option.{same_Some, slice_get_within, get_or_from_slice_get}
use Rattle.std.proofs.lemmas.List.Elements.{Contains-get_or, Contains-append_left, Contains-append_right, Contains-append_cases}
use Rattle.pta_base.specs.declared.effect.Effect.{Effect}
use Rattle.pta_base.specs.declared.effect.Effect.TheVariants.{Nothing, GivesArgument, GivesNew, GivesObject, Copies, StoresInto, CallsBack}
use Rattle.sol_model.specs.declared.system.System.{System}
use Rattle.sol_model.specs.declared.system.CallSite.{CallSite}
use Rattle.sol_model.specs.declared.system.Function.{Function}
use Rattle.sol_model.specs.declared.system.LocationFact.{LocationFact}
use Rattle.sol_model.specs.Systems.{IsLocationValid}
use Rattle.sol_model.specs.Families.{Family, Has}
use Rattle.sol_model.specs.Rules.{IsTarget, argument_row, back_signature}
use Rattle.sol_model.specs.Targets.{CallsBackIn, IsGraphEdge}
use Rattle.sol_model.proofs.Members.{Contains-at, at_Contains}
use Rattle.call_graph.specs.Order.{IsInOrder}
use Rattle.call_graph.specs.Graph.{Gains, IsGraph, IsTo, IsFrom, IsBackIn, IsBackBy, IsBackAt, IsBackEdge, IsCallEdge}

pub gains_same : (xs : List (ℕ × ℕ)) (Edge : ℕ → ℕ → Type 0) → ((a b : ℕ) → Edge a b → ⊥) → Gains xs xs Edge
gains_same xs Edge none = record { kept = λ a b h. h; added = λ a b h. absurd (none a b h); nothing_else = λ a b h. inl h }

-- the pairs of one relation, and then those of another
pub gains_then : (old now new : List (ℕ × ℕ)) (One Other Both : ℕ → ℕ → Type 0) → Gains old now One → Gains now new Other
    → ((a b : ℕ) → One a b → Both a b) → ((a b : ℕ) → Other a b → Both a b) → ((a b : ℕ) → Both a b → One a b ⊎ Other a b) → Gains old new Both
gains_then old now new One Other Both one other from_one from_other parts = record {
  kept = λ a b h. other.kept a b (one.kept a b h);
  added = λ a b h. elim (parts a b h) [ inl p ↦ other.kept a b (one.added a b p) | inr p ↦ other.added a b p ];
  nothing_else = λ a b h. elim (other.nothing_else a b h) [
    | inl now_there ↦ elim (one.nothing_else a b now_there) [ inl before ↦ inl before | inr p ↦ inr (from_one a b p) ]
    | inr p ↦ inr (from_other a b p)
  ];
}

pub gains_as : (old new : List (ℕ × ℕ)) (One Other : ℕ → ℕ → Type 0) → Gains old new One → ((a b : ℕ) → One a b → Other a b) → ((a b : ℕ) → Other a b → One a b) → Gains old new Other
gains_as old new One Other one to from = record {
  kept = one.kept;
  added = λ a b h. one.added a b (from a b h);
  nothing_else = λ a b h. elim (one.nothing_else a b h) [ inl before ↦ inl before | inr p ↦ inr (to a b p) ];
}

-- the pairs of the numbers below i, and then those of i
pub gains_next : (old now new : List (ℕ × ℕ)) (i : ℕ) (Edge : ℕ → ℕ → ℕ → Type 0)
    → Gains old now (λ a b. (k : ℕ) × (k < i) × Edge k a b) → Gains now new (Edge i) → Gains old new (λ a b. (k : ℕ) × (k < i + 1) × Edge k a b)
gains_next old now new i Edge before here =
    gains_then old now new (λ a b. (k : ℕ) × (k < i) × Edge k a b) (Edge i) (λ a b. (k : ℕ) × (k < i + 1) × Edge k a b) before here
    (λ a b h. (h.0, omega (arith, h.1), h.2))
    (λ a b h. (i, omega arith, h))
    (λ a b h. elim (cases_lt h.0 i) [
      | inl lt ↦ inl (h.0, lt, h.2)
      | inr ge ↦ inr (let below = h.1 in let e : h.0 ≡ i = omega arith in subst (λ k. Edge k a b) e h.2)
    ])

pub gains_none : (xs : List (ℕ × ℕ)) (Edge : ℕ → ℕ → ℕ → Type 0) → Gains xs xs (λ a b. (k : ℕ) × (k < 0) × Edge k a b)
gains_none xs Edge = gains_same xs (λ a b. (k : ℕ) × (k < 0) × Edge k a b) (λ a b h. absurd (omega (arith, h.1)))

-- ---- the pairs of one call
-- ---- the functions at one location
pub same_function : (functions : List Function) (found : Option ℕ) (n m : ℕ) (f g : Function) → found ≡ Some n → found ≡ Some m → slice_get functions n ≡ Some f → slice_get functions m ≡ Some g → f ≡ g
same_function functions found n m f g one other at there =
    let same : n ≡ m = same_Some n m (sym one ∙ other) in same_Some f g (sym at ∙ ap (slice_get functions) same ∙ there)

pub to_none : (system : System) (signature caller location : ℕ) (fact : LocationFact) (xs : List (ℕ × ℕ)) → IsLocationValid system location fact
    → ((number : ℕ) (function : Function) → fact.function ≡ Some number → slice_get system.functions number ≡ Some function → function.signature ≡ signature → ⊥)
    → Gains xs xs (IsTo system signature caller location)
to_none system signature caller location fact xs valid none =
    gains_same xs (IsTo system signature caller location) (λ a b h. let f = h.1 in none b f.0 ((valid.own b f.0 (f.1).known).1 (f.1).stands) (f.1).known (f.1).agrees)

only_pair : (p q : ℕ × ℕ) → Contains (p ∷ []) q → p ≡ q
only_pair p q (zero, lt, is) = is
only_pair p q (suc k, lt, is) = absurd (omega arith)

pub to_one : (system : System) (signature caller location number : ℕ) (function : Function) (fact : LocationFact) (old new : List (ℕ × ℕ)) → IsLocationValid system location fact
    → fact.function ≡ Some number → slice_get system.functions number ≡ Some function → function.signature ≡ signature → new ≡ old ++ (caller, number) ∷ []
    → Gains old new (IsTo system signature caller location)
to_one system signature caller location number function fact old new valid is known agrees now = record {
  kept = λ a b h. subst (λ (xs : List (ℕ × ℕ)). Contains xs (a, b)) (sym now) (Contains-append_left old ((caller, number) ∷ []) (a, b) h);
  added = λ a b h.
      let f = h.1 in
      let same : b ≡ number = same_Some _ _ (sym ((valid.own b f.0 (f.1).known).1 (f.1).stands) ∙ is) in
      let pair : ◌≡◌ {A = ℕ × ℕ} (caller, number) (a, b) = λ i. (sym h.0 i, sym same i) in
      subst (λ (xs : List (ℕ × ℕ)). Contains xs (a, b)) (sym now) (Contains-append_right old ((caller, number) ∷ []) (a, b) (0, omega arith, pair));
  nothing_else = λ a b h. elim (Contains-append_cases old ((caller, number) ∷ []) (a, b) (subst (λ (xs : List (ℕ × ℕ)). Contains xs (a, b)) now h)) [
    | inl before ↦ inl before
    | inr one ↦
        let pair = only_pair (caller, number) (a, b) one in
        let same : number ≡ b = ap (λ (p : ℕ × ℕ). p.1) pair in
        inr (sym (ap (λ (p : ℕ × ℕ). p.0) pair), (function, record { known = subst (λ (n : ℕ). slice_get system.functions n ≡ Some function) same known; stands = (valid.own number function known).0 is; agrees = agrees }))
  ];
}

-- the pairs of one location after another
pub located_all : (held : List ℕ) (Edge : ℕ → ℕ → ℕ → Type 0) (count : ℕ) (old new : List (ℕ × ℕ)) → count ≡ length held
    → Gains old new (λ a b. (k : ℕ) × (k < count) × Edge (get_or held k 0) a b) → Gains old new (λ a b. (location : ℕ) × Contains held location × Edge location a b)
located_all held Edge count old new all gains =
    gains_as old new (λ a b. (k : ℕ) × (k < count) × Edge (get_or held k 0) a b) (λ a b. (location : ℕ) × Contains held location × Edge location a b) gains
    (λ a b h. (get_or held h.0 0, Contains-get_or held h.0 0 (let lt = h.1 in omega arith), h.2))
    (λ a b h. let w = at_Contains held h.0 h.1 in (w.0, (let lt = w.1 in omega arith), subst (λ (l : ℕ). Edge l a b) (sym (get_or_from_slice_get held w.0 h.0 0 w.2)) h.2))

-- the functions at the locations that a row has are those that it has
pub held_all : (system : System) (F : Family) (row signature caller : ℕ) (held : List ℕ) (old new : List (ℕ × ℕ)) → ((location : ℕ) → Contains held location ↔ Has F row location)
    → Gains old new (λ a b. (location : ℕ) × Contains held location × IsTo system signature caller location a b) → Gains old new (IsFrom system F row signature caller)
held_all system F row signature caller held old new same gains =
    gains_as old new (λ a b. (location : ℕ) × Contains held location × IsTo system signature caller location a b) (IsFrom system F row signature caller) gains
    (λ a b h. let f = (h.2).1 in ((h.2).0, (f.0, record { known = (f.1).known; reached = subst (λ (l : ℕ). Has F row l) (sym (f.1).stands) ((same h.0).0 h.1); agrees = (f.1).agrees })))
    (λ a b h. let f = h.1 in ((f.0).location, (same (f.0).location).1 (f.1).reached, (h.0, (f.0, record { known = (f.1).known; stands = refl; agrees = (f.1).agrees }))))

pub back_held : (system : System) (F : Family) (call : CallSite) (effect : Effect) (k : ℕ) (passed : Option (ℕ × ℕ)) (library row signature : ℕ) (old new : List (ℕ × ℕ))
    → effect ≡ CallsBack k passed → argument_row call k ≡ Some row → signature ≡ back_signature passed
    → Gains old new (IsFrom system F row signature library) → Gains old new (IsBackIn system F call effect library)
back_held system F call effect k passed library row signature old new is at sign gains =
    rw is (gains_as old new (IsFrom system F row signature library) (IsBackIn system F call (CallsBack k passed) library) gains
    (λ a b h. (h.0, ((h.1).0, record { known = ((h.1).1).known; reached = (row, at, ((h.1).1).reached); agrees = ((h.1).1).agrees ∙ sign })))
    (λ a b h.
    let back = (h.1).1 in
    let same : back.reached.0 ≡ row = same_Some _ _ (sym back.reached.1 ∙ at) in
    (h.0, ((h.1).0, record { known = back.known; reached = subst (λ r. Has F r ((h.1).0).location) same back.reached.2; agrees = back.agrees ∙ sym sign }))))

-- one more effect
pub effects_next : (system : System) (F : Family) (call : CallSite) (function : Function) (effect : Effect) (library i : ℕ) (old now new : List (ℕ × ℕ))
    → slice_get function.effects i ≡ Some effect
    → Gains old now (λ a b. (k : ℕ) × (k < i) × ((e : Effect) × (slice_get function.effects k ≡ Some e) × IsBackIn system F call e library a b))
    → Gains now new (IsBackIn system F call effect library)
    → Gains old new (λ a b. (k : ℕ) × (k < i + 1) × ((e : Effect) × (slice_get function.effects k ≡ Some e) × IsBackIn system F call e library a b))
effects_next system F call function effect library i old now new at before here =
    gains_next old now new i (λ k a b. (e : Effect) × (slice_get function.effects k ≡ Some e) × IsBackIn system F call e library a b) before
    (gains_as now new (IsBackIn system F call effect library) (λ a b. (e : Effect) × (slice_get function.effects i ≡ Some e) × IsBackIn system F call e library a b) here
    (λ a b h. (effect, at, h))
    (λ a b h. subst (λ (e : Effect). IsBackIn system F call e library a b) (same_Some _ _ (sym h.1 ∙ at)) h.2))

pub effects_all : (system : System) (F : Family) (call : CallSite) (function : Function) (library count : ℕ) (old new : List (ℕ × ℕ)) → length function.effects ≤ count
    → Gains old new (λ a b. (k : ℕ) × (k < count) × ((e : Effect) × (slice_get function.effects k ≡ Some e) × IsBackIn system F call e library a b))
    → Gains old new (IsBackBy system F call library function)
effects_all system F call function library count old new all gains =
    gains_as old new (λ a b. (k : ℕ) × (k < count) × ((e : Effect) × (slice_get function.effects k ≡ Some e) × IsBackIn system F call e library a b)) (IsBackBy system F call library function) gains
    (λ a b h. ((h.2).0, Contains-at function.effects h.0 (h.2).0 (h.2).1, (h.2).2))
    (λ a b h. let w = at_Contains function.effects h.0 h.1 in (w.0, (let lt = w.1 in omega arith), (h.0, w.2, h.2)))

-- a target's call backs
pub back_edge : (system : System) (F : Family) (call : CallSite) (target library : ℕ) (function : Function) (old new : List (ℕ × ℕ))
    → IsTarget system F call target function → IsSome function.library → library ≡ target
    → Gains old new (IsBackBy system F call library function) → Gains old new (IsBackEdge system F call target)
back_edge system F call target library function old new reached some same gains =
    gains_as old new (IsBackBy system F call library function) (IsBackEdge system F call target) gains
    (λ a b h. (function, reached, some, subst (λ l. IsBackBy system F call l function a b) same h))
    (λ a b h. subst (λ l. IsBackBy system F call l function a b) (sym same)
    (subst (λ (f : Function). IsBackBy system F call target f a b) (same_Some _ _ (sym (h.1).known ∙ reached.known)) h.3))

-- the same of the function at a location
pub back_at : (system : System) (F : Family) (call : CallSite) (target location : ℕ) (function : Function) (fact : LocationFact) (old new : List (ℕ × ℕ))
    → IsLocationValid system location fact → fact.function ≡ Some target → slice_get system.functions target ≡ Some function
    → Gains old new (IsBackEdge system F call target) → Gains old new (IsBackAt system F call location)
back_at system F call target location function fact old new valid is known gains =
    gains_as old new (IsBackEdge system F call target) (IsBackAt system F call location) gains
    (λ a b h. (target, function, known, (valid.own target function known).0 is, h))
    (λ a b h. let same : h.0 ≡ target = same_Some _ _ (sym ((valid.own h.0 h.1 h.2).1 h.3) ∙ is) in subst (λ (t : ℕ). IsBackEdge system F call t a b) same h.4)

-- a location that is no library function of the call's signature has no call backs
pub no_back_at : (system : System) (F : Family) (call : CallSite) (location : ℕ) (fact : LocationFact) (xs : List (ℕ × ℕ)) → IsLocationValid system location fact
    → ((target : ℕ) (function : Function) → fact.function ≡ Some target → slice_get system.functions target ≡ Some function → IsSome function.library → function.signature ≡ call.signature → ⊥)
    → Gains xs xs (IsBackAt system F call location)
no_back_at system F call location fact xs valid none = gains_same xs (IsBackAt system F call location) (λ a b h.
    let edge = h.4 in
    let same : edge.0 ≡ h.1 = same_Some _ _ (sym (edge.1).known ∙ h.2) in
    none h.0 h.1 ((valid.own h.0 h.1 h.2).1 h.3) h.2 (subst (λ (f : Function). IsSome f.library) same edge.2) (ap (λ (f : Function). f.signature) (sym same) ∙ (edge.1).agrees))

-- the call backs of the functions at the locations that the callee's row has
pub backs_all : (system : System) (F : Family) (call : CallSite) (held : List ℕ) (old new : List (ℕ × ℕ)) → ((location : ℕ) → Contains held location ↔ Has F call.callee location)
    → Gains old new (λ a b. (location : ℕ) × Contains held location × IsBackAt system F call location a b) → Gains old new (λ a b. (target : ℕ) × IsBackEdge system F call target a b)
backs_all system F call held old new same gains =
    gains_as old new (λ a b. (location : ℕ) × Contains held location × IsBackAt system F call location a b) (λ a b. (target : ℕ) × IsBackEdge system F call target a b) gains
    (λ a b h. ((h.2).0, (h.2).4))
    (λ a b h. let f = (h.1).0 in (f.location, (same f.location).1 ((h.1).1).reached, (h.0, f, ((h.1).1).known, refl, h.1)))

-- ---- all calls
-- one more call
pub calls_next : (system : System) (F : Family) (call : CallSite) (i : ℕ) (old now new : List (ℕ × ℕ)) → slice_get system.calls i ≡ Some call
    → Gains old now (λ a b. (k : ℕ) × (k < i) × ((c : CallSite) × (slice_get system.calls k ≡ Some c) × IsCallEdge system F c a b))
    → Gains now new (IsCallEdge system F call)
    → Gains old new (λ a b. (k : ℕ) × (k < i + 1) × ((c : CallSite) × (slice_get system.calls k ≡ Some c) × IsCallEdge system F c a b))
calls_next system F call i old now new at before here =
    gains_next old now new i (λ k a b. (c : CallSite) × (slice_get system.calls k ≡ Some c) × IsCallEdge system F c a b) before
    (gains_as now new (IsCallEdge system F call) (λ a b. (c : CallSite) × (slice_get system.calls i ≡ Some c) × IsCallEdge system F c a b) here
    (λ a b h. (call, at, h))
    (λ a b h. subst (λ (c : CallSite). IsCallEdge system F c a b) (same_Some _ _ (sym h.1 ∙ at)) h.2))

back_of : (system : System) (F : Family) (call : CallSite) (target : ℕ) (function : Function) (effect : Effect) (a b : ℕ)
    → Contains system.calls call → IsTarget system F call target function → IsSome function.library → Contains function.effects effect → IsBackIn system F call effect target a b → CallsBackIn system F a b
back_of system F call target function (CallsBack k passed) a b there reached some listed back =
    subst (λ l. CallsBackIn system F l b) (sym back.0) (call, function, (back.1).0, k, passed, there, reached, some, listed, (back.1).1)
back_of system F call target function Nothing a b there reached some listed back = absurd back
back_of system F call target function (GivesArgument k) a b there reached some listed back = absurd back
back_of system F call target function GivesNew a b there reached some listed back = absurd back
back_of system F call target function (GivesObject k) a b there reached some listed back = absurd back
back_of system F call target function (Copies i j) a b there reached some listed back = absurd back
back_of system F call target function (StoresInto i j) a b there reached some listed back = absurd back

-- the edges of all calls are those of the graph
call_edge : (system : System) (F : Family) (call : CallSite) (k a b : ℕ) → slice_get system.calls k ≡ Some call → IsCallEdge system F call a b → IsGraphEdge system F a b
call_edge system F call k a b at edge = elim edge [
  | inl held ↦ inl (k, call, at, sym held.0, (call, (held.1).0, at, record { known = ((held.1).1).known; reached = ((held.1).1).reached; agrees = ((held.1).1).agrees }))
  | inr back ↦ (let by = back.1 in inr (back_of system F call back.0 by.0 (by.3).0 a b (Contains-at system.calls k call at) by.1 by.2 (by.3).1 (by.3).2))
]

edge_call : (system : System) (F : Family) (count a b : ℕ) → length system.calls ≤ count → IsGraphEdge system F a b → (k : ℕ) × (k < count) × ((c : CallSite) × (slice_get system.calls k ≡ Some c) × IsCallEdge system F c a b)
edge_call system F count a b all edge = elim edge [
  | inl direct ↦
      (let target = direct.4 in
      let same : target.0 ≡ direct.1 = same_Some _ _ (sym target.2 ∙ direct.2) in (
        direct.0,
        (let within = slice_get_within system.calls direct.0 direct.1 direct.2 in omega arith),
        (target.0, target.2, inl (sym (ap (λ (c : CallSite). c.caller) same ∙ direct.3), (target.1, record { known = (target.3).known; reached = (target.3).reached; agrees = (target.3).agrees }))),
      ))
  | inr back ↦
      (let w = at_Contains system.calls back.0 back.5 in
      (w.0, (let lt = w.1 in omega arith), (back.0, w.2, inr (a, (back.1, back.6, back.7, (CallsBack back.3 back.4, back.8, (refl, (back.2, back.9))))))))
]

empty_contains : (pair : ℕ × ℕ) → Contains [] pair → ⊥
empty_contains pair h = absurd (omega (arith, h.1))

pub graph_of : (system : System) (F : Family) (pairs ordered : List (ℕ × ℕ)) (count : ℕ) → length system.calls ≤ count
    → Gains [] pairs (λ a b. (k : ℕ) × (k < count) × ((c : CallSite) × (slice_get system.calls k ≡ Some c) × IsCallEdge system F c a b))
    → ((pair : ℕ × ℕ) → Contains ordered pair ↔ Contains pairs pair) → IsInOrder ordered → IsGraph system F ordered
graph_of system F pairs ordered count all gains same order = record {
  edges = λ a b. (
    (λ h. elim (gains.nothing_else a b ((same (a, b)).0 h)) [
      | inl none ↦ absurd (empty_contains (a, b) none)
      | inr edge ↦ call_edge system F (edge.2).0 edge.0 a b (edge.2).1 (edge.2).2
    ]),
    (λ h. (same (a, b)).1 (gains.added a b (edge_call system F count a b all h))),
  );
  ordered = order;
}
