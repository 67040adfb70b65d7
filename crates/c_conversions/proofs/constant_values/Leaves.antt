-- The leaf of a place.
use Rattle.std.proofs.Common.{arith, ◌≡◌, ℕ, suc, ◌<◌, ◌+◌, ◌-◌, Bool, true, false, cond, Option, Some, sym, ap, ◌∙◌}
use Rattle.core_nodes.specs.passed.c_senses.Tree.{first_where, numbers_from}

pub leaf_here : (test : ℕ → Bool) (n i : ℕ) (whole : Option ℕ) → i < n → first_where test (numbers_from i (n - i)) ≡ whole → true ≡ test i → whole ≡ Some i
leaf_here test n i whole h e here =
    let k : n - i ≡ suc (n - (i + 1)) = omega arith in
    sym e ∙ (ap (λ (j : ℕ). first_where test (numbers_from i j)) k ∙ sym (ap (λ (b : Bool). cond b (Some i) (first_where test (numbers_from (suc i) (n - (i + 1))))) here))

pub leaf_passed : (test : ℕ → Bool) (n i : ℕ) (whole : Option ℕ) → i < n → first_where test (numbers_from i (n - i)) ≡ whole → false ≡ test i → first_where test (numbers_from (i + 1) (n - (i + 1))) ≡ whole
leaf_passed test n i whole h e here =
    let k : n - i ≡ suc (n - (i + 1)) = omega arith in
    let m : i + 1 ≡ suc i = omega arith in
    ap (λ (j : ℕ). first_where test (numbers_from j (n - (i + 1)))) m
    ∙ (ap (λ (b : Bool). cond b (Some i) (first_where test (numbers_from (suc i) (n - (i + 1))))) here
    ∙ (sym (ap (λ (j : ℕ). first_where test (numbers_from i j)) k) ∙ e))
