-- Induction over the events of the rows machine.
use Rattle.std.proofs.Common.{◌≡◌, ℕ, true, ◌&&◌, ◌==◌, List, [], ◌∷◌, ◌++◌, refl, sym, ap, ◌∙◌, subst, ◌⊎◌, inl, inr, arith, true≢false}
use Rattle.std.proofs.lemmas.Bool.Decides.{nat_tests}
use Rattle.std.proofs.lemmas.Bool.{or_cases, cases_Bool}
use Rattle.sol_model.specs.declared.system.System.{System}
use Rattle.sol_model.specs.Families.{Family, Has, IsInside}
use Rattle.sol_model.specs.Solutions.{IsClosed, IsBelow, IsLeast, IsGiven}
use Rattle.sol_model.proofs.Monotone.{given_in_closed}
use Rattle.sol_model.proofs.Closed.{closed_has}
use Rattle.set_rows.specs.declared.rows_core.event.Event.{Event}
use Rattle.set_rows.specs.declared.rows_core.event.Event.TheVariants.{Or, Shut, Look}
use Rattle.set_rows.specs.rows_core.Machine.{Machine, start, with_fact, Licensed, next, run, AllLicensed, RowsStayBelow, RowsOnlyGrow, ShutRowsAreLeast}

fact_here : (F : Family) (r l row location : ℕ) → Has (with_fact F r l) row location → Has F row location ⊎ ((row ≡ r) × (location ≡ l))
fact_here F r l row location h = elim (or_cases (F row location) _ h) [ inl o ↦ inl o | inr t ↦ inr (grind (arith, nat_tests), grind (arith, nat_tests)) ]

or_below : (S : System) (m : Machine) (r l : ℕ) → IsGiven S m.rows r l → IsBelow S m.rows → IsBelow S (with_fact m.rows r l)
or_below S m r l may b G closed row location h = elim (fact_here m.rows r l row location h) [
  | inl o ↦ b G closed row location o
  | inr t ↦ subst (λ (f : ℕ × ℕ). Has G f.0 f.1) (λ i. (sym t.0 i, sym t.1 i)) (given_in_closed S m.rows G (b G closed) r l closed may)
]

next_below : (S : System) (m : Machine) (e : Event) → Licensed S m e → IsBelow S m.rows → IsBelow S (next m e).rows
next_below S m (Or r l) may b = or_below S m r l may b
next_below S m Shut may b = b
next_below S m Look may b = b

pub run_below : (S : System) (m : Machine) (es : List Event) → AllLicensed S m es → IsBelow S m.rows → IsBelow S (run m es).rows
run_below S m [] may b = b
run_below S m (e ∷ es) may b = run_below S (next m e) es may.1 (next_below S m e may.0 b)

start_below : (S : System) → IsBelow S start.rows
start_below S G closed row location h = absurd (cc)

pub stays_below : RowsStayBelow
stays_below S es valid may = run_below S start es may (start_below S)

next_grows : (m : Machine) (e : Event) → IsInside m.rows (next m e).rows
next_grows m (Or r l) row location h = rw h refl
next_grows m Shut row location h = h
next_grows m Look row location h = h

pub run_snoc : (m : Machine) (es fs : List Event) → run m (es ++ fs) ≡ run (run m es) fs
run_snoc m [] fs = refl
run_snoc m (e ∷ es) fs = run_snoc (next m e) es fs

pub only_grow : RowsOnlyGrow
only_grow S es e valid may = subst (λ (n : Machine). IsInside (run start es).rows n.rows) (sym (run_snoc start es (e ∷ []))) (next_grows (run start es) e)

may_split : (S : System) (m : Machine) (es fs : List Event) → AllLicensed S m (es ++ fs) → AllLicensed S m es × AllLicensed S (run m es) fs
may_split S m [] fs may = (tt, may)
may_split S m (e ∷ es) fs may = let r = may_split S (next m e) es fs may.1 in ((may.0, r.0), r.1)

-- a fact that the family has changes nothing
same_fact : (F : Family) (r l row location : ℕ) → Has F r l → with_fact F r l row location ≡ F row location
same_fact F r l row location h = elim (cases_Bool (F row location)) [
  | inl o ↦ rw o refl
  | inr n ↦ elim (cases_Bool ((row == r) && (location == l))) [
    | inl t ↦ let a : row ≡ r = grind (arith, nat_tests) in let b : location ≡ l = grind (arith, nat_tests) in
        absurd (true≢false (sym (subst (λ (f : ℕ × ℕ). F f.0 f.1 ≡ true) (λ i. (sym a i, sym b i)) h) ∙ n))
    | inr t ↦ rw (n, t) refl
  ]
]

closed_next : (S : System) (m : Machine) (e : Event) → IsClosed S m.rows → Licensed S m e → (next m e).rows ≡ m.rows
closed_next S m (Or r l) closed may = λ i row location. same_fact m.rows r l row location (closed_has S m.rows closed r l may) i
closed_next S m Shut closed may = refl
closed_next S m Look closed may = refl

closed_run : (S : System) (m : Machine) (es : List Event) → IsClosed S m.rows → AllLicensed S m es → (run m es).rows ≡ m.rows
closed_run S m [] closed may = refl
closed_run S m (e ∷ es) closed may = let same = closed_next S m e closed may.0 in closed_run S (next m e) es (subst (IsClosed S) (sym same) closed) may.1 ∙ same

shut_least : (S : System) (m : Machine) (later : List Event) → IsBelow S m.rows → AllLicensed S m (Shut ∷ later) → IsLeast S m.rows × ((run m (Shut ∷ later)).rows ≡ m.rows)
shut_least S m later b may = (record { closed = may.0; below = b }, closed_run S (next m Shut) later may.0 may.1)

pub shut_rows_are_least : ShutRowsAreLeast
shut_rows_are_least S es later valid may =
    let m : Machine = run start es in
    let parts = may_split S start es (Shut ∷ later) may in
    let l = shut_least S m later (run_below S start es parts.0 (start_below S)) parts.1 in
    let here : run start (es ++ Shut ∷ []) ≡ next m Shut = run_snoc start es (Shut ∷ []) in
    let there : run start (es ++ Shut ∷ later) ≡ run m (Shut ∷ later) = run_snoc start es (Shut ∷ later) in
    (subst (λ (n : Machine). IsLeast S n.rows) (sym here) l.0, ap (λ (n : Machine). n.rows) there ∙ l.1 ∙ sym (ap (λ (n : Machine). n.rows) here))

pub may_join : (S : System) (m : Machine) (es fs : List Event) → AllLicensed S m es → AllLicensed S (run m es) fs → AllLicensed S m (es ++ fs)
may_join S m [] fs a b = b
may_join S m (e ∷ es) fs a b = (a.0, may_join S (next m e) es fs a.1 b)
