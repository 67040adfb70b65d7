-- What a rule demands once a row has new members: what it demanded before, or what it demands for the new ones.
use Rattle.std.proofs.Common.{◌≡◌, ◌⊎◌, ℕ, zero, suc, Option, Some, None, List, slice_get, Contains, IsSome, true≢false, refl, sym, ap, ◌∙◌, subst, inl, inr}
use Rattle.std.proofs.lemmas.Option.{none-some, same_Some}
use Rattle.pta_base.specs.declared.effect.Effect.{Effect}
use Rattle.pta_base.specs.declared.effect.Effect.TheVariants.{Nothing, GivesArgument, GivesNew, GivesObject, Copies, StoresInto, CallsBack}
use Rattle.sol_model.specs.declared.system.System.{System}
use Rattle.sol_model.specs.declared.system.CallSite.{CallSite}
use Rattle.sol_model.specs.declared.system.Function.{Function}
use Rattle.sol_model.specs.declared.system.Constraint.{Constraint}
use Rattle.sol_model.specs.declared.system.Constraint.TheVariants.{Address, Copy, Load, Store, Field, Contents, Call}
use Rattle.sol_model.specs.Families.{Family, Has, IsInside}
use Rattle.sol_model.specs.Rules.{argument_row, IsTarget, IsInArgument, IsCalledBack, EffectEdge, EffectFact, TargetEdge, TargetFact, DemandsEdge, DemandsFact}
use Rattle.sol_model.proofs.Monotone.{more_edge}
use Rattle.edge_book.specs.Edges.{only}
use Rattle.edge_book.proofs.Alone.{has_only, only_has}
use Rattle.new_members.specs.News.{IsGrown, Reads, IsNewIn, NewEdge, IsLibraryAt, LibraryEdge, IsNewOf, NewCallEdge, NewCallFact, NewPointerEdge, NewFieldFact, NewContentsEdge}

is_some : {X : Type 0} (o : Option X) (x : X) → o ≡ Some x → IsSome o
is_some None x e = absurd (none-some x e)
is_some (Some y) x e = refl

module _ (S : System) (F G : Family) (row : ℕ) (new : List ℕ) (grown : IsGrown F G row new) where
  argument_split : (call : CallSite) (number k location : ℕ) → IsInArgument G call number k location → IsInArgument F call number k location ⊎ IsNewIn call k row new location
  argument_split call number zero location h = inl h
  argument_split call number (suc k) location h = elim (grown h.0 location h.2) [
    | inl old ↦ inl (h.0, h.1, old)
    | inr n ↦ inr (h.1 ∙ ap Some n.0, n.1)
  ]

  effect_split : (call : CallSite) (number : ℕ) (effect : Effect) (a b : ℕ) → EffectEdge S G call number effect a b → EffectEdge S F call number effect a b ⊎ NewEdge S G call number row new effect a b
  effect_split call number Nothing a b h = inl h
  effect_split call number (GivesArgument k) a b h = inl h
  effect_split call number GivesNew a b h = inl h
  effect_split call number (GivesObject object) a b h = inl h
  effect_split call number (Copies i j) a b h = elim (argument_split call number i h.0 h.2) [
    | inr to_new ↦ inr (inl (h.0, to_new, (h.1, h.3, h.4)))
    | inl to_old ↦ elim (argument_split call number j h.1 h.3) [
      | inr from_new ↦ inr (inr (h.0, h.2, (h.1, from_new, h.4)))
      | inl from_old ↦ inl (h.0, h.1, to_old, from_old, h.4)
    ]
  ]
  effect_split call number (StoresInto i j) a b h = elim (grown h.0 b h.2) [
    | inl old ↦ inl (h.0, h.1, old, h.3)
    | inr n ↦ inr ((h.1 ∙ ap Some n.0, n.1), h.3)
  ]
  effect_split call number (CallsBack k passed) a b h =
      let back : IsCalledBack S G call k passed h.0 h.1 = h.2 in
      elim (grown back.reached.0 (h.1).location back.reached.2) [
        | inl old ↦ inl (h.0, h.1, record { known = back.known; reached = (back.reached.0, back.reached.1, old); agrees = back.agrees }, h.3)
        | inr n ↦ inr ((h.1).location, (back.reached.1 ∙ ap Some n.0, n.1), (h.0, h.1, back.known, refl, back.agrees, h.3))
      ]

  target_split : (call : CallSite) (number target : ℕ) (function : Function) (library : Option ℕ) (a b : ℕ) → function.library ≡ library → slice_get S.calls number ≡ Some call → IsTarget S G call target function
      → TargetEdge S G call target function library a b → DemandsEdge S F (Call number) a b ⊎ NewCallEdge S G call number row new a b
  target_split call number target function None a b is at t edge = elim (grown call.callee function.location t.reached) [
    | inl old ↦ inl (call, target, function, at, record { known = t.known; reached = old; agrees = t.agrees }, subst (λ (o : Option ℕ). TargetEdge S F call target function o a b) (sym is) edge)
    | inr n ↦ inr (inl (
      function.location,
      n,
      (
        call,
        target,
        function,
        at,
        record { known = t.known; reached = has_only call.callee function.location; agrees = t.agrees },
        subst (λ (o : Option ℕ). TargetEdge S (only call.callee function.location) call target function o a b) (sym is) edge,
      ),
    ))
  ]
  target_split call number target function (Some library) a b is at t edge =
      let here : IsLibraryAt S call function.location target = (function, t.known, refl, t.agrees, is_some function.library library is) in
      elim (grown call.callee function.location t.reached) [
        | inl old ↦ elim (effect_split call target edge.0 a b edge.2) [
          | inl before ↦ inl (call, target, function, at, record { known = t.known; reached = old; agrees = t.agrees }, subst (λ (o : Option ℕ). TargetEdge S F call target function o a b) (sym is) (edge.0, edge.1, before))
          | inr now ↦ inr (inr (inr (function.location, t.reached, (target, here, (function, t.known, (edge.0, edge.1, now))))))
        ]
        | inr n ↦ inr (inr (inl (function.location, n, (target, here, (function, t.known, edge)))))
      ]

  pub call_split : (site : CallSite) (number a b : ℕ) → slice_get S.calls number ≡ Some site → DemandsEdge S G (Call number) a b → DemandsEdge S F (Call number) a b ⊎ NewCallEdge S G site number row new a b
  call_split site number a b at d =
      let same : d.0 ≡ site = same_Some d.0 site (sym d.3 ∙ at) in
      subst (λ (s : CallSite). DemandsEdge S F (Call number) a b ⊎ NewCallEdge S G s number row new a b) same
      (target_split d.0 number d.1 d.2 (d.2).library a b refl d.3 d.4 d.5)

  target_fact_split : (call : CallSite) (number target : ℕ) (function : Function) (library : Option ℕ) (a b : ℕ) → function.library ≡ library → slice_get S.calls number ≡ Some call → IsTarget S G call target function
      → TargetFact call target function library a b → DemandsFact S F (Call number) a b ⊎ NewCallFact S call row new a b
  target_fact_split call number target function None a b is at t fact = absurd fact
  target_fact_split call number target function (Some library) a b is at t fact = elim (grown call.callee function.location t.reached) [
    | inl old ↦ inl (call, target, function, at, record { known = t.known; reached = old; agrees = t.agrees }, subst (λ (o : Option ℕ). TargetFact call target function o a b) (sym is) fact)
    | inr n ↦ inr (function.location, n, (target, (function, t.known, refl, t.agrees, is_some function.library library is), (function, t.known, fact)))
  ]

  pub call_fact_split : (site : CallSite) (number a b : ℕ) → slice_get S.calls number ≡ Some site → DemandsFact S G (Call number) a b → DemandsFact S F (Call number) a b ⊎ NewCallFact S site row new a b
  call_fact_split site number a b at d =
      let same : d.0 ≡ site = same_Some d.0 site (sym d.3 ∙ at) in
      subst (λ (s : CallSite). DemandsFact S F (Call number) a b ⊎ NewCallFact S s row new a b) same
      (target_fact_split d.0 number d.1 d.2 (d.2).library a b refl d.3 d.4 d.5)

  pub load_split : (p t y s a b : ℕ) → row ≡ p → DemandsEdge S G (Load p t y s) a b → DemandsEdge S F (Load p t y s) a b ⊎ NewPointerEdge S p new (Load p t y s) a b
  load_split p t y s a b is d = elim (grown p d.0 d.1) [
    | inl old ↦ inl (d.0, old, d.2, d.3)
    | inr n ↦ inr (d.0, n.1, (d.0, has_only p d.0, d.2, d.3))
  ]

  pub store_split : (p f y s a b : ℕ) → row ≡ p → DemandsEdge S G (Store p f y s) a b → DemandsEdge S F (Store p f y s) a b ⊎ NewPointerEdge S p new (Store p f y s) a b
  store_split p f y s a b is d = elim (grown p d.0 d.1) [
    | inl old ↦ inl (d.0, old, d.2, d.3)
    | inr n ↦ inr (d.0, n.1, (d.0, has_only p d.0, d.2, d.3))
  ]

  pub field_split : (f t y m a b : ℕ) → DemandsFact S G (Field f t y m) a b → DemandsFact S F (Field f t y m) a b ⊎ NewFieldFact S t y m new a b
  field_split f t y m a b d = elim (grown f d.0 d.1) [
    | inl old ↦ inl (d.0, old, d.2, d.3)
    | inr n ↦ inr (d.0, n.1, d.2, d.3)
  ]

  pub contents_split : (t f a b : ℕ) → DemandsEdge S G (Contents t f) a b → DemandsEdge S F (Contents t f) a b ⊎ NewContentsEdge S G t f row new a b
  contents_split t f a b d = elim (grown t d.0 d.2) [
    | inr n ↦ inr (inl (d.0, n, (d.1, d.3, d.4)))
    | inl to_old ↦ elim (grown f d.1 d.3) [
      | inr n ↦ inr (inr (d.0, d.2, (d.1, n, d.4)))
      | inl from_old ↦ inl (d.0, d.1, to_old, from_old, d.4)
    ]
  ]

  -- the rule of a constraint that doesn't read the row
  argument_unread : (call : CallSite) (number : ℕ) (effect : Effect) (a b : ℕ) → NewEdge S G call number row new effect a b → (k : ℕ) × (argument_row call k ≡ Some row)
  argument_unread call number Nothing a b h = absurd h
  argument_unread call number (GivesArgument k) a b h = absurd h
  argument_unread call number GivesNew a b h = absurd h
  argument_unread call number (GivesObject object) a b h = absurd h
  argument_unread call number (Copies i j) a b h = elim h [ inl n ↦ (i, n.1.0) | inr n ↦ (j, n.2.1.0) ]
  argument_unread call number (StoresInto i j) a b h = (i, h.0.0)
  argument_unread call number (CallsBack k passed) a b h = (k, h.1.0)

  call_reads : (site : CallSite) (number a b : ℕ) → slice_get S.calls number ≡ Some site → NewCallEdge S G site number row new a b → Reads S (Call number) row
  call_reads site number a b at h = elim h [
    | inl n ↦ (site, at, inl (sym n.1.0))
    | inr m ↦ elim m [
      | inl n ↦ (site, at, inl (sym n.1.0))
      | inr n ↦ (let deep = n.2.2 in let effect = deep.2 in (site, at, inr (argument_unread site n.2.0 effect.0 a b effect.2)))
    ]
  ]

  pub unread_edge : (constraint : Constraint) (a b : ℕ) → (Reads S constraint row → ⊥) → DemandsEdge S G constraint a b → DemandsEdge S F constraint a b
  unread_edge (Address to what) a b fails d = d
  unread_edge (Copy from to) a b fails d = d
  unread_edge (Load p t y s) a b fails d = elim (grown p d.0 d.1) [ inl old ↦ (d.0, old, d.2, d.3) | inr n ↦ absurd (fails (sym n.0)) ]
  unread_edge (Store p f y s) a b fails d = elim (grown p d.0 d.1) [ inl old ↦ (d.0, old, d.2, d.3) | inr n ↦ absurd (fails (sym n.0)) ]
  unread_edge (Field f t y m) a b fails d = d
  unread_edge (Contents t f) a b fails d = elim (contents_split t f a b d) [ inl old ↦ old | inr n ↦ absurd (elim n [ inl to ↦ fails (inl (sym to.1.0)) | inr from ↦ fails (inr (sym from.2.1.0)) ]) ]
  unread_edge (Call number) a b fails d = elim (call_split d.0 number a b d.3 d) [ inl old ↦ old | inr n ↦ absurd (fails (call_reads d.0 number a b d.3 n)) ]

  pub unread_fact : (constraint : Constraint) (a b : ℕ) → (Reads S constraint row → ⊥) → DemandsFact S G constraint a b → DemandsFact S F constraint a b
  unread_fact (Address to what) a b fails d = d
  unread_fact (Copy from to) a b fails d = d
  unread_fact (Load p t y s) a b fails d = d
  unread_fact (Store p f y s) a b fails d = d
  unread_fact (Field f t y m) a b fails d = elim (grown f d.0 d.1) [ inl old ↦ (d.0, old, d.2, d.3) | inr n ↦ absurd (fails (sym n.0)) ]
  unread_fact (Contents t f) a b fails d = d
  unread_fact (Call number) a b fails d = elim (call_fact_split d.0 number a b d.3 d) [ inl old ↦ old | inr n ↦ absurd (fails (d.0, d.3, inl (sym n.1.0))) ]

-- what is demanded for new members is demanded
module _ (S : System) (G : Family) (row : ℕ) (new : List ℕ) (there : (location : ℕ) → Contains new location → Has G row location) where
  new_argument : (call : CallSite) (number k location : ℕ) → IsNewIn call k row new location → IsInArgument G call number k location
  new_argument call number zero location h = absurd (none-some row h.0)
  new_argument call number (suc k) location h = (row, h.0, there location h.1)

  new_effect : (call : CallSite) (number : ℕ) (effect : Effect) (a b : ℕ) → NewEdge S G call number row new effect a b → EffectEdge S G call number effect a b
  new_effect call number Nothing a b h = h
  new_effect call number (GivesArgument k) a b h = absurd h
  new_effect call number GivesNew a b h = h
  new_effect call number (GivesObject object) a b h = h
  new_effect call number (Copies i j) a b h = elim h [
    | inl n ↦ (n.0, n.2.0, new_argument call number i n.0 n.1, n.2.1, n.2.2)
    | inr n ↦ (n.0, n.2.0, n.1, new_argument call number j n.2.0 n.2.1, n.2.2)
  ]
  new_effect call number (StoresInto i j) a b h = (row, h.0.0, there b h.0.1, h.1)
  new_effect call number (CallsBack k passed) a b h =
      let back = h.2 in
      let function : Function = back.1 in
      (back.0, function, record { known = back.2; reached = (row, h.1.0, subst (Has G row) (sym back.3) (there h.0 h.1.1)); agrees = back.4 }, back.5)

  library_target : (call : CallSite) (location number : ℕ) (function : Function) → IsLibraryAt S call location number → slice_get S.functions number ≡ Some function → Has G call.callee location
      → IsTarget S G call number function × IsSome function.library
  library_target call location number function is at has =
      let same : is.0 ≡ function = same_Some is.0 function (sym is.1 ∙ at) in (
        record { known = at; reached = subst (Has G call.callee) (sym (ap (λ (f : Function). f.location) (sym same) ∙ is.2)) has; agrees = ap (λ (f : Function). f.signature) (sym same) ∙ is.3 },
        subst (λ (f : Function). IsSome f.library) same is.4,
      )

  of_library : (call : CallSite) (number : ℕ) (function : Function) (library : Option ℕ) (a b : ℕ) → IsSome library → ((effect : Effect) × Contains function.effects effect × EffectEdge S G call number effect a b) → TargetEdge S G call number function library a b
  of_library call number function None a b s h = absurd (true≢false (sym s))
  of_library call number function (Some library) a b s h = h

  of_library_fact : (call : CallSite) (number : ℕ) (function : Function) (library : Option ℕ) (a b : ℕ) → IsSome library → ((effect : Effect) × Contains function.effects effect × EffectFact call number effect a b) → TargetFact call number function library a b
  of_library_fact call number function None a b s h = absurd (true≢false (sym s))
  of_library_fact call number function (Some library) a b s h = h

  callee_has : (at location : ℕ) → IsNewOf at row new location → Has G at location
  callee_has at location n = subst (λ (r : ℕ). Has G r location) (sym n.0) (there location n.1)

  pub only_inside : (at location : ℕ) → Has G at location → IsInside (only at location) G
  only_inside at location has r l h = let e = only_has at location r l h in subst (λ (x : ℕ). Has G x l) (sym e.0) (subst (Has G at) (sym e.1) has)

  library_edge : (site : CallSite) (number a b location : ℕ) → slice_get S.calls number ≡ Some site → Has G site.callee location → LibraryEdge S G site location a b → DemandsEdge S G (Call number) a b
  library_edge site number a b location at has h =
      let function : Function = h.2.0 in
      let t = library_target site location h.0 function h.1 h.2.1 has in
      (site, h.0, function, at, t.0, of_library site h.0 function function.library a b t.1 h.2.2)

  pub call_sound : (site : CallSite) (number a b : ℕ) → slice_get S.calls number ≡ Some site → NewCallEdge S G site number row new a b → DemandsEdge S G (Call number) a b
  call_sound site number a b at h = elim h [
    | inl n ↦ more_edge S (only site.callee n.0) G (only_inside site.callee n.0 (callee_has site.callee n.0 n.1)) (Call number) a b n.2
    | inr m ↦ elim m [
      | inl n ↦ library_edge site number a b n.0 at (callee_has site.callee n.0 n.1) n.2
      | inr n ↦ (let deep = n.2.2 in let effect = deep.2 in
          library_edge site number a b n.0 at n.1 (n.2.0, n.2.1, (deep.0, deep.1, (effect.0, effect.1, new_effect site n.2.0 effect.0 a b effect.2))))
    ]
  ]

  pub call_fact_sound : (site : CallSite) (number a b : ℕ) → slice_get S.calls number ≡ Some site → NewCallFact S site row new a b → DemandsFact S G (Call number) a b
  call_fact_sound site number a b at n =
      let function : Function = n.2.2.0 in
      let t = library_target site n.0 n.2.0 function n.2.1 n.2.2.1 (callee_has site.callee n.0 n.1) in
      (site, n.2.0, function, at, t.0, of_library_fact site n.2.0 function function.library a b t.1 n.2.2.2)

  pub pointer_sound : (p : ℕ) (constraint : Constraint) (a b : ℕ) → row ≡ p → NewPointerEdge S p new constraint a b → DemandsEdge S G constraint a b
  pointer_sound p constraint a b is n = more_edge S (only p n.0) G (only_inside p n.0 (subst (λ (r : ℕ). Has G r n.0) is (there n.0 n.1))) constraint a b n.2

  pub field_sound : (f t y m a b : ℕ) → row ≡ f → NewFieldFact S t y m new a b → DemandsFact S G (Field f t y m) a b
  field_sound f t y m a b is n = (n.0, subst (λ (r : ℕ). Has G r n.0) is (there n.0 n.1), n.2, n.3)

  pub contents_sound : (t f a b : ℕ) → NewContentsEdge S G t f row new a b → DemandsEdge S G (Contents t f) a b
  contents_sound t f a b h = elim h [
    | inl n ↦ (n.0, n.2.0, callee_has t n.0 n.1, n.2.1, n.2.2)
    | inr n ↦ (n.0, n.2.0, n.1, callee_has f n.2.0 n.2.1, n.2.2)
  ]
