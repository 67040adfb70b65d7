-- One item more.
use Rattle.std.proofs.Common.{arith, ◌≡◌, ℕ, zero, suc, ◌+◌, ◌<◌, ◌≤◌, ◌⊎◌, inl, inr, List, [], ◌∷◌, ◌++◌, length, take, get_or, refl, ap, sym, ◌∙◌, add-one, append_assoc, append-nil, min}
use Rattle.std.proofs.lemmas.Bool.{cases_lt}
use Rattle.c_types.specs.declared.term.PathStep.{PathStep}
use Rattle.normal_form.specs.declared.normal.Assignment.{Assignment}
use Rattle.row_numbers.specs.Setting.{Setting}
use Rattle.normal_form.specs.Assignments.{item_row, initialise_row}

module _ (w : Setting) (e : ℕ) where
  items_suc : (ps : List (List PathStep)) (vs : List ℕ) (i : ℕ) (dp : List PathStep) (dv : ℕ) → i < length ps → i < length vs → initialise_row w e (take (suc i) ps) (take (suc i) vs) ≡ initialise_row w e (take i ps) (take i vs) ++ item_row w e (get_or ps i dp) (get_or vs i dv)
  items_suc [] vs i dp dv h k = absurd (omega arith)
  items_suc (p ∷ ps) [] i dp dv h k = absurd (omega arith)
  items_suc (p ∷ ps) (v ∷ vs) zero dp dv h k = append-nil (item_row w e p v)
  items_suc (p ∷ ps) (v ∷ vs) (suc i) dp dv h k =
      ap (λ (xs : List Assignment). item_row w e p v ++ xs) (items_suc ps vs i dp dv (omega arith) (omega arith))
      ∙ sym (append_assoc (item_row w e p v) (initialise_row w e (take i ps) (take i vs)) (item_row w e (get_or ps i dp) (get_or vs i dv)))

  pub items_more : (ps : List (List PathStep)) (vs : List ℕ) (i : ℕ) (dp : List PathStep) (dv : ℕ) → i < length ps → i < length vs → initialise_row w e (take (i + 1) ps) (take (i + 1) vs) ≡ initialise_row w e (take i ps) (take i vs) ++ item_row w e (get_or ps i dp) (get_or vs i dv)
  items_more ps vs i dp dv h k = rw add-one (items_suc ps vs i dp dv h k)

  no_values : (ps : List (List PathStep)) → initialise_row w e ps [] ≡ []
  no_values [] = refl
  no_values (p ∷ ps) = refl

  pub items_all : (ps : List (List PathStep)) (vs : List ℕ) (i : ℕ) → (length ps ≤ i) ⊎ (length vs ≤ i) → initialise_row w e (take i ps) (take i vs) ≡ initialise_row w e ps vs
  items_all [] vs zero h = refl
  items_all [] vs (suc i) h = refl
  items_all (p ∷ ps) [] zero h = refl
  items_all (p ∷ ps) [] (suc i) h = refl
  items_all (p ∷ ps) (v ∷ vs) zero (inl h) = absurd (omega arith)
  items_all (p ∷ ps) (v ∷ vs) zero (inr h) = absurd (omega arith)
  items_all (p ∷ ps) (v ∷ vs) (suc i) (inl h) = ap (λ (xs : List Assignment). item_row w e p v ++ xs) (items_all ps vs i (inl (omega arith)))
  items_all (p ∷ ps) (v ∷ vs) (suc i) (inr h) = ap (λ (xs : List Assignment). item_row w e p v ++ xs) (items_all ps vs i (inr (omega arith)))

  pub items_step : (ps : List (List PathStep)) (vs : List ℕ) (i : ℕ) (old out new : List Assignment) (path dp : List PathStep) (v : ℕ) → i < length ps → i < length vs → out ≡ old ++ initialise_row w e (take i ps) (take i vs) → path ≡ get_or ps i dp → new ≡ out ++ item_row w e path (get_or vs i v) → new ≡ old ++ initialise_row w e (take (i + 1) ps) (take (i + 1) vs)
  items_step ps vs i old out new path dp v h k was p now =
      now ∙ (rw (was, p) (append_assoc old (initialise_row w e (take i ps) (take i vs)) (item_row w e (get_or ps i dp) (get_or vs i v)))
      ∙ ap (λ (xs : List Assignment). old ++ xs) (sym (items_more ps vs i dp v h k)))

pub least_of : (m n i : ℕ) → min m n ≤ i → (m ≤ i) ⊎ (n ≤ i)
least_of m n i h = by (cases_lt i m) where
  by : (i < m) ⊎ (m ≤ i) → (m ≤ i) ⊎ (n ≤ i)
  by (inl lt) = inr (omega arith)
  by (inr le) = inl le
