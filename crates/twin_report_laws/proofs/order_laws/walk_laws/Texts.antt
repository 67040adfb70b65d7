-- Texts and comparisons, character by character.
use Rattle.std.proofs.Common.{arith, ◌≡◌, ◌∙◌, ℕ, zero, suc, ◌+◌, ◌<◌, ℤ, List, [], ◌∷◌, length, Option, Some, None, Result, Ok, Err, refl, sym, ap, subst}
use Rattle.std.proofs.lemmas.Option.{none-some, same_Some}
use Rattle.ref_cells.specs.declared.cells.Reason.{Reason}
use Rattle.ref_texts.specs.Reading.{push_char, text_on, text_from, compare_on, compared}
use Rattle.twin_report_laws.specs.order_laws.walk_laws.Texts.{AreRead, joined, IsText, ends, fails, goes_on, TextsRead, AreLevel, IsCompared, decides, fails as stops, equal, TextsCompared}

abbrev At : Type 0
At = ℕ → Result (Option ℤ) Reason

-- the first of these places, and those behind it
first_at : (at : At) (place : ℕ) (r : Result (Option ℤ) Reason) → at place ≡ r → at (place + 0) ≡ r
first_at at place r h = (let none : place + 0 ≡ place = omega arith in ap at none ∙ h)

at_first : (at : At) (place : ℕ) (r : Result (Option ℤ) Reason) → at (place + 0) ≡ r → at place ≡ r
at_first at place r h = (let none : place ≡ place + 0 = omega arith in ap at none ∙ h)

next_at : (at : At) (place i : ℕ) (r : Result (Option ℤ) Reason) → at ((place + 1) + i) ≡ r → at (place + suc i) ≡ r
next_at at place i r h = (let same : place + suc i ≡ (place + 1) + i = omega arith in ap at same ∙ h)

at_next : (at : At) (place i : ℕ) (r : Result (Option ℤ) Reason) → at (place + suc i) ≡ r → at ((place + 1) + i) ≡ r
at_next at place i r h = (let same : (place + 1) + i ≡ place + suc i = omega arith in ap at same ∙ h)

-- ---- texts
module _ (at : At) (behind : Result (List ℤ) Reason) where
  read_nothing : (place : ℕ) → AreRead at place []
  read_nothing place i c h = absurd (none-some c h)

  read_more : (place : ℕ) (c : ℤ) (text : List ℤ) → at place ≡ Ok (Some c) → AreRead at (place + 1) text → AreRead at place (c ∷ text)
  read_more place c text here rest zero d h = first_at at place (Ok (Some d)) (here ∙ ap (λ (x : ℤ). Ok (Some x)) (same_Some c d h))
  read_more place c text here rest (suc i) d h = next_at at place i (Ok (Some d)) (rest i d h)

  read_less : (place : ℕ) (c : ℤ) (text : List ℤ) → AreRead at place (c ∷ text) → AreRead at (place + 1) text
  read_less place c text all i d h = at_next at place i (Ok (Some d)) (all (suc i) d h)

  nothing_joined : (r : Result (List ℤ) Reason) → r ≡ joined [] r
  nothing_joined (Ok more) = refl
  nothing_joined (Err reason) = refl

  push_joined : (c : ℤ) (text : List ℤ) (r : Result (List ℤ) Reason) → push_char c (joined text r) ≡ joined (c ∷ text) r
  push_joined c text (Ok more) = refl
  push_joined c text (Err reason) = refl

  -- one character more in front
  pushed : (most place : ℕ) (c : ℤ) (r : Result (List ℤ) Reason) → at place ≡ Ok (Some c) → IsText at behind most (place + 1) r → IsText at behind (suc most) place (push_char c r)
  pushed most place c r here (ends text read few zero_at is) =
      ends (c ∷ text) (read_more place c text here read) (omega (arith, few)) (next_at at place (length text) (Ok None) zero_at) (ap (push_char c) is)
  pushed most place c r here (fails text reason read few wrong is) =
      fails (c ∷ text) reason (read_more place c text here read) (omega (arith, few)) (next_at at place (length text) (Err reason) wrong) (ap (push_char c) is)
  pushed most place c r here (goes_on text read all is) =
      goes_on (c ∷ text) (read_more place c text here read) (omega (arith, all)) (ap (push_char c) is ∙ push_joined c text behind)

  reads : (most place : ℕ) → IsText at behind most place (text_from at behind most place)
  unfolding text_from
  reads zero place = goes_on [] (read_nothing place) refl (nothing_joined behind)
  reads (suc most) place = by (at place) refl (reads most (place + 1))
    where
      by : (r : Result (Option ℤ) Reason) → at place ≡ r → IsText at behind most (place + 1) (text_from at behind most (place + 1)) → IsText at behind (suc most) place (text_on r (text_from at behind most (place + 1)))
      by (Err reason) here rest = fails [] reason (read_nothing place) (omega arith) (first_at at place (Err reason) here) refl
      by (Ok None) here rest = ends [] (read_nothing place) (omega arith) (first_at at place (Ok None) here) refl
      by (Ok (Some c)) here rest = pushed most place c (text_from at behind most (place + 1)) here rest

  ended : (text : List ℤ) (most place : ℕ) → AreRead at place text → length text < most → at (place + length text) ≡ Ok None → text_from at behind most place ≡ Ok text
  unfolding text_from
  ended text zero place read few zero_at = absurd (omega (arith, few))
  ended [] (suc most) place read few zero_at = ap (λ (r : Result (Option ℤ) Reason). text_on r (text_from at behind most (place + 1))) (at_first at place (Ok None) zero_at)
  ended (c ∷ text) (suc most) place read few zero_at =
      ap (λ (r : Result (Option ℤ) Reason). text_on r (text_from at behind most (place + 1))) (at_first at place (Ok (Some c)) (read 0 c refl))
      ∙ ap (push_char c) (ended text most (place + 1) (read_less place c text read) (omega (arith, few)) (at_next at place (length text) (Ok None) zero_at))

  failed : (text : List ℤ) (reason : Reason) (most place : ℕ) → AreRead at place text → length text < most → at (place + length text) ≡ Err reason → text_from at behind most place ≡ Err reason
  unfolding text_from
  failed text reason zero place read few wrong = absurd (omega (arith, few))
  failed [] reason (suc most) place read few wrong = ap (λ (r : Result (Option ℤ) Reason). text_on r (text_from at behind most (place + 1))) (at_first at place (Err reason) wrong)
  failed (c ∷ text) reason (suc most) place read few wrong =
      ap (λ (r : Result (Option ℤ) Reason). text_on r (text_from at behind most (place + 1))) (at_first at place (Ok (Some c)) (read 0 c refl))
      ∙ ap (push_char c) (failed text reason most (place + 1) (read_less place c text read) (omega (arith, few)) (at_next at place (length text) (Err reason) wrong))

  went_on : (text : List ℤ) (most place : ℕ) → AreRead at place text → length text ≡ most → text_from at behind most place ≡ joined text behind
  unfolding text_from
  went_on [] zero place read all = nothing_joined behind
  went_on [] (suc most) place read all = absurd (omega (arith, all))
  went_on (c ∷ text) zero place read all = absurd (omega (arith, all))
  went_on (c ∷ text) (suc most) place read all =
      ap (λ (r : Result (Option ℤ) Reason). text_on r (text_from at behind most (place + 1))) (at_first at place (Ok (Some c)) (read 0 c refl))
      ∙ (ap (push_char c) (went_on text most (place + 1) (read_less place c text read) (omega (arith, all))) ∙ push_joined c text behind)

  read_as : (most place : ℕ) (result : Result (List ℤ) Reason) → IsText at behind most place result → result ≡ text_from at behind most place
  read_as most place result (ends text read few zero_at is) = is ∙ sym (ended text most place read few zero_at)
  read_as most place result (fails text reason read few wrong is) = is ∙ sym (failed text reason most place read few wrong)
  read_as most place result (goes_on text read all is) = is ∙ sym (went_on text most place read all)

pub texts_read : TextsRead
texts_read at behind most place result =
    ((λ is. subst (IsText at behind most place) (sym is) (reads at behind most place)), read_as at behind most place result)

-- ---- comparisons
module _ (at : At) (level : Result ℤ Reason) where
  level_nothing : (place : ℕ) → AreLevel at place 0
  level_nothing place i lt = absurd (omega (arith, lt))

  level_more : (place count : ℕ) → at place ≡ Ok None → AreLevel at (place + 1) count → AreLevel at place (suc count)
  level_more place count here rest zero lt = first_at at place (Ok None) here
  level_more place count here rest (suc i) lt = next_at at place i (Ok None) (rest i (omega (arith, lt)))

  level_less : (place count : ℕ) → AreLevel at place (suc count) → AreLevel at (place + 1) count
  level_less place count all i lt = at_next at place i (Ok None) (all (suc i) (omega (arith, lt)))

  level_first : (place count : ℕ) → AreLevel at place (suc count) → at place ≡ Ok None
  level_first place count all = at_first at place (Ok None) (all 0 (omega arith))

  passed : (most place : ℕ) (r : Result ℤ Reason) → at place ≡ Ok None → IsCompared at level most (place + 1) r → IsCompared at level (suc most) place r
  passed most place r here (decides count order few before found is) =
      decides (suc count) order (omega (arith, few)) (level_more place count here before) (next_at at place count (Ok (Some order)) found) is
  passed most place r here (stops count reason few before wrong is) = stops (suc count) reason (omega (arith, few)) (level_more place count here before) (next_at at place count (Err reason) wrong) is
  passed most place r here (equal all is) = equal (level_more place most here all) is

  compares : (most place : ℕ) → IsCompared at level most place (compared at level most place)
  unfolding compared
  compares zero place = equal (level_nothing place) refl
  compares (suc most) place = by (at place) refl (compares most (place + 1))
    where
      by : (r : Result (Option ℤ) Reason) → at place ≡ r → IsCompared at level most (place + 1) (compared at level most (place + 1)) → IsCompared at level (suc most) place (compare_on r (compared at level most (place + 1)))
      by (Err reason) here rest = stops 0 reason (omega arith) (level_nothing place) (first_at at place (Err reason) here) refl
      by (Ok None) here rest = passed most place (compared at level most (place + 1)) here rest
      by (Ok (Some order)) here rest = decides 0 order (omega arith) (level_nothing place) (first_at at place (Ok (Some order)) here) refl

  -- past places that decide nothing
  on_from : (most place : ℕ) (r : Result (Option ℤ) Reason) → at place ≡ r → compared at level (suc most) place ≡ compare_on r (compared at level most (place + 1))
  unfolding compared
  on_from most place r here = ap (λ (x : Result (Option ℤ) Reason). compare_on x (compared at level most (place + 1))) here

  decided : (count most place : ℕ) (order : ℤ) → count < most → AreLevel at place count → at (place + count) ≡ Ok (Some order) → compared at level most place ≡ Ok order
  decided count zero place order few before found = absurd (omega (arith, few))
  decided zero (suc most) place order few before found = on_from most place (Ok (Some order)) (at_first at place (Ok (Some order)) found)
  decided (suc count) (suc most) place order few before found =
      on_from most place (Ok None) (level_first place count before)
      ∙ decided count most (place + 1) order (omega (arith, few)) (level_less place count before) (at_next at place count (Ok (Some order)) found)

  stopped : (count most place : ℕ) (reason : Reason) → count < most → AreLevel at place count → at (place + count) ≡ Err reason → compared at level most place ≡ Err reason
  stopped count zero place reason few before wrong = absurd (omega (arith, few))
  stopped zero (suc most) place reason few before wrong = on_from most place (Err reason) (at_first at place (Err reason) wrong)
  stopped (suc count) (suc most) place reason few before wrong =
      on_from most place (Ok None) (level_first place count before)
      ∙ stopped count most (place + 1) reason (omega (arith, few)) (level_less place count before) (at_next at place count (Err reason) wrong)

  levelled : (most place : ℕ) → AreLevel at place most → compared at level most place ≡ level
  unfolding compared
  levelled zero place all = refl
  levelled (suc most) place all = on_from most place (Ok None) (level_first place most all) ∙ levelled most (place + 1) (level_less place most all)

  compared_as : (most place : ℕ) (result : Result ℤ Reason) → IsCompared at level most place result → result ≡ compared at level most place
  compared_as most place result (decides count order few before found is) = is ∙ sym (decided count most place order few before found)
  compared_as most place result (stops count reason few before wrong is) = is ∙ sym (stopped count most place reason few before wrong)
  compared_as most place result (equal all is) = is ∙ sym (levelled most place all)

pub texts_compared : TextsCompared
texts_compared at level most place result =
    ((λ is. subst (IsCompared at level most place) (sym is) (compares at level most place)), compared_as at level most place result)
