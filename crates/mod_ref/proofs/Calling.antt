-- What calls of the library touch.
use Rattle.std.proofs.Common.{◌≡◌, ◌↔◌, ℕ, ◌+◌, ◌<◌, ◌≤◌, ◌⊎◌, true, false, List, length, Some, slice_get, Contains, All, refl, sym, ◌∙◌, ap, subst, inl, inr, get_or}
use Rattle.std.proofs.lemmas.Bool.{false≢true}
use Rattle.std.proofs.lemmas.Option.{same_Some}
use Rattle.std.proofs.lemmas.List.Elements.{Contains-get_or}
use Rattle.sol_model.specs.declared.system.System.{System}
use Rattle.sol_model.specs.declared.system.CallSite.{CallSite}
use Rattle.sol_model.specs.declared.system.Function.{Function}
use Rattle.sol_model.specs.declared.rows.Rows.{Rows}
use Rattle.sol_model.specs.Families.{Family, Has}
use Rattle.sol_model.specs.Systems.{IsLocation}
use Rattle.obj_space.specs.View.{SpaceView}
use Rattle.row_numbers.specs.Setting.{Setting}
use Rattle.mod_ref.specs.declared.access.Access.{Access}
use Rattle.mod_ref.specs.Direct.{CallTouches, CallsTouch, IsInArguments, IsLibraryTarget}
use Rattle.mod_ref.specs.Gains.{Gains, In, IsLibraryAt, IsMadeAt}
use Rattle.mod_ref.proofs.Gaining.{gains_as, gains_listed, gains_next, gains_then}

-- the members of a row are locations
pub held_known : (S : System) (F : Family) (row : ℕ) (held list : List ℕ) → ((r l : ℕ) → Has F r l → IsLocation S l) → ((l : ℕ) → Contains list l ↔ Has F row l) → held ≡ list → All (IsLocation S) held
held_known S F row held list known has same k d lt =
    let l = get_or held k d in
    known row l ((has l).0 (subst (λ (xs : List ℕ). Contains xs l) same (Contains-get_or held k d lt)))

module _ (s : SpaceView) (S : System) (F : Family) (access : Access) (call : CallSite) (held : List ℕ) (has : (l : ℕ) → Contains held l ↔ Has F call.callee l) where
  target_of : (at number : ℕ) (function : Function) → Contains held at → IsLibraryAt S call at number function → IsLibraryTarget S F call number function
  target_of at number function h is = record {
    target = record { known = is.known; reached = subst (λ l. Has F call.callee l) (sym is.stands) ((has at).0 h); agrees = is.agrees };
    library = is.library;
  }

  at_of : (number : ℕ) (function : Function) → IsLibraryTarget S F call number function → Contains held function.location × IsLibraryAt S call function.location number function
  at_of number function t = (
    (has function.location).1 (t.target).reached,
    record { known = (t.target).known; stands = refl; agrees = (t.target).agrees; library = t.library },
  )

  abbrev Made : ℕ → Type 0
  Made l = (at : ℕ) × Contains held at × IsMadeAt s S access call at l

  abbrev Found : Type 0
  Found = (at : ℕ) × Contains held at × ((number : ℕ) × (function : Function) × IsLibraryAt S call at number function)

  made_touches : (l : ℕ) → Made l → CallTouches s S F access call l
  made_touches l m = let one = m.2 in (one.0, one.1, target_of m.0 one.0 one.1 m.1 one.2, inr (one.3, one.4))

  found_of : (number : ℕ) (function : Function) → IsLibraryTarget S F call number function → Found
  found_of number function t = let at = at_of number function t in (function.location, at.0, (number, function, at.1))

  -- no library function is reached
  pub call_none : (old new : Rows) → (Found → ⊥) → Gains old new (In call.caller Made) → Gains old new (In call.caller (CallTouches s S F access call))
  call_none old new none gains =
      gains_as old new (In call.caller Made) (In call.caller (CallTouches s S F access call)) gains
      (λ r l h. (h.0, made_touches l h.1))
      (λ r l h. let t = h.1 in absurd (none (found_of t.0 t.1 t.2)))

  -- one is, and so what the arguments lead to is touched
  pub call_some : (old now new : Rows) → Found → Gains old now (In call.caller Made) → Gains now new (In call.caller (IsInArguments S F call)) → Gains old new (In call.caller (CallTouches s S F access call))
  call_some old now new found made arguments =
      gains_then old now new (In call.caller Made) (In call.caller (IsInArguments S F call)) (In call.caller (CallTouches s S F access call)) made arguments
      (λ r l h. (h.0, made_touches l h.1))
      (λ r l h. let one = found.2 in (h.0, (one.0, one.1, target_of found.0 one.0 one.1 found.1 one.2, inl h.1)))
      (λ r l h. let t = h.1 in elim t.3 [
        | inl argument ↦ inr (h.0, argument)
        | inr given ↦ (let at = at_of t.0 t.1 t.2 in inl (h.0, ((t.1).location, at.0, (t.0, t.1, at.1, given.0, given.1))))
      ])

-- one call after another
pub calls_next : (calls : List CallSite) (Fact : CallSite → ℕ → Type 0) (i : ℕ) (call : CallSite) (old now new : Rows) → slice_get calls i ≡ Some call
    → Gains old now (λ f l. (k : ℕ) × (k < i) × ((c : CallSite) × (slice_get calls k ≡ Some c) × ((f ≡ c.caller) × Fact c l)))
    → Gains now new (In call.caller (Fact call))
    → Gains old new (λ f l. (k : ℕ) × (k < i + 1) × ((c : CallSite) × (slice_get calls k ≡ Some c) × ((f ≡ c.caller) × Fact c l)))
calls_next calls Fact i call old now new at before here =
    gains_next old now new i (λ k f l. (c : CallSite) × (slice_get calls k ≡ Some c) × ((f ≡ c.caller) × Fact c l)) before
    (gains_as now new (In call.caller (Fact call)) (λ f l. (c : CallSite) × (slice_get calls i ≡ Some c) × ((f ≡ c.caller) × Fact c l)) here
    (λ f l h. (call, at, h))
    (λ f l h. subst (λ (c : CallSite). (f ≡ c.caller) × Fact c l) (same_Some _ _ (sym h.1 ∙ at)) h.2))

pub calls_all : (w : Setting) (S : System) (F : Family) (access : Access) (n : ℕ) (old new : Rows) → length S.calls ≤ n
    → Gains old new (λ f l. (k : ℕ) × (k < n) × ((c : CallSite) × (slice_get S.calls k ≡ Some c) × ((f ≡ c.caller) × CallTouches w.space S F access c l)))
    → Gains old new (CallsTouch w S F access)
calls_all w S F access n old new all gains =
    gains_as old new (λ f l. (c : CallSite) × Contains S.calls c × ((f ≡ c.caller) × CallTouches w.space S F access c l)) (CallsTouch w S F access)
    (gains_listed S.calls (λ (c : CallSite) f l. (f ≡ c.caller) × CallTouches w.space S F access c l) n old new all gains)
    (λ f l h. let c = h.2 in record { call = h.0; there = h.1; caller = sym c.0; touches = c.1 })
    (λ f l h. (h.call, h.there, (sym h.caller, h.touches)))
