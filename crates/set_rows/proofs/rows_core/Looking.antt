-- Steps of the loops that look for what gives a fact.
use Rattle.std.proofs.Common.{◌≡◌, ℕ, ◌+◌, ◌<◌, Bool, List, Some, slice_get, IsTrue, IsFalse, sym, ◌∙◌, ap, subst, inl, inr, arith}
use Rattle.std.proofs.lemmas.Bool.{cases_lt, both_ways}
use Rattle.std.proofs.lemmas.Option.{same_Some}

-- a test that answers false rules out what it tests
pub ruled_out : (b : Bool) (P : Type 0) → IsFalse b → (P → IsTrue b) → P → ⊥
ruled_out b P false_b to p = both_ways b false_b (to p)

-- what no element below i has, and the one at i hasn't, none below i + 1 has
pub none_next : {X : Type 0} (xs : List X) (P : ℕ → X → Type 0) (i : ℕ) (x : X) → slice_get xs i ≡ Some x → ((k : ℕ) (y : X) → k < i → slice_get xs k ≡ Some y → P k y → ⊥) → (P i x → ⊥) → (k : ℕ) (y : X) → k < i + 1 → slice_get xs k ≡ Some y → P k y → ⊥
none_next {X} xs P i x at below here k y lt there has = elim (cases_lt k i) [
  | inl less ↦ below k y less there has
  | inr more ↦
      (let e : i ≡ k = omega arith in
      let same : y ≡ x = same_Some _ _ (sym there ∙ ap (slice_get xs) (sym e) ∙ at) in
      here (subst (λ (z : X). P i z) same (subst (λ (j : ℕ). P j y) (sym e) has)))
]
