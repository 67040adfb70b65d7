-- The last number of a list that passes a test, looked for from the end.
use Rattle.std.proofs.Common.{arith, ◌≡◌, ◌∙◌, ℕ, zero, suc, ◌<◌, Bool, true, false, cond, List, [], ◌∷◌, length, get_or, drop, Option, Some, None, refl, sym, ap}
use Rattle.c_senses.specs.Tree.{last_where, last_or}

module _ (test : ℕ → Bool) where
  -- none from a place on, where none is behind it and what stands there doesn't pass
  pub last_none : (xs : List ℕ) (i k : ℕ) → k ≡ suc i → i < length xs → last_where test (drop k xs) ≡ None → test (get_or xs i 0) ≡ false → last_where test (drop i xs) ≡ None
  last_none [] i k e lt h f = absurd (omega (arith, lt))
  last_none (x ∷ xs) zero k e lt h f =
      let rest : last_where test xs ≡ None = ap (λ (n : ℕ). last_where test (drop n (x ∷ xs))) (sym e) ∙ h in
      ap (λ (o : Option ℕ). last_or o (cond (test x) (Some x) None)) rest ∙ ap (λ (b : Bool). cond b (Some x) None) f
  last_none (x ∷ xs) (suc i) k e lt h f = last_none xs i (suc i) refl (omega (arith, lt)) (ap (λ (n : ℕ). last_where test (drop n (x ∷ xs))) (sym e) ∙ h) f

  -- what stands at a place, where none is behind it and it passes
  pub last_some : (xs : List ℕ) (i k : ℕ) → k ≡ suc i → i < length xs → last_where test (drop k xs) ≡ None → test (get_or xs i 0) ≡ true → last_where test xs ≡ Some (get_or xs i 0)
  last_some [] i k e lt h t = absurd (omega (arith, lt))
  last_some (x ∷ xs) zero k e lt h t =
      let rest : last_where test xs ≡ None = ap (λ (n : ℕ). last_where test (drop n (x ∷ xs))) (sym e) ∙ h in
      ap (λ (o : Option ℕ). last_or o (cond (test x) (Some x) None)) rest ∙ ap (λ (b : Bool). cond b (Some x) None) t
  last_some (x ∷ xs) (suc i) k e lt h t =
      let more = last_some xs i (suc i) refl (omega (arith, lt)) (ap (λ (n : ℕ). last_where test (drop n (x ∷ xs))) (sym e) ∙ h) t in
      ap (λ (o : Option ℕ). last_or o (cond (test x) (Some x) None)) more
