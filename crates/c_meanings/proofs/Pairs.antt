-- Pairs of uses and declarations.
use Rattle.std.proofs.Common.{◌≡◌, ℕ, ◌<◌, true, false, eqb, Some, List, [], ◌∷◌, All, cond, subst}
use Rattle.std.proofs.lemmas.List.Elements.{All-head, All-tail}
use Rattle.c_senses.specs.Tree.{paired}

-- what a use is paired with is one of the second numbers
pub paired_within : (n : ℕ) (ps : List (ℕ × ℕ)) (leaf d : ℕ) → All (λ (p : ℕ × ℕ). p.1 < n) ps → paired ps leaf ≡ Some d → d < n
paired_within n [] leaf d all e = absurd (cc)
paired_within n (p ∷ rest) leaf d all e =
    (elim (eqb p.0 leaf) as (λ b. cond b (Some p.1) (paired rest leaf) ≡ Some d → d < n) [
      | true ↦ λ f. let same : p.1 ≡ d = cc in subst (λ (x : ℕ). x < n) same (All-head (λ (q : ℕ × ℕ). q.1 < n) p rest all)
      | false ↦ λ f. paired_within n rest leaf d (All-tail (λ (q : ℕ × ℕ). q.1 < n) p rest all) f
    ]) e
