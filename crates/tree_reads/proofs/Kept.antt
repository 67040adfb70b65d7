-- Parents as they are held.
use Rattle.std.proofs.Common.{arith, ◌≡◌, ℕ, zero, suc, ◌<◌, List, ◌∷◌, Option, Some, None, eqb, false, cond, map, replicate, refl, ap}
use Rattle.std.proofs.lemmas.Bool.{ne_eqb}
use Rattle.tree_reads.specs.Held.{no_parent, parent_held}

pub held_below : (p : ℕ) → p < no_parent → parent_held p ≡ Some p
held_below p h =
    let apart : eqb p no_parent ≡ false = ne_eqb p no_parent (λ e. omega arith) in
    ap (λ b. cond b None (Some p)) apart

pub all_unknown : (n : ℕ) → map parent_held (replicate n no_parent) ≡ replicate n None
all_unknown zero = refl
all_unknown (suc n) = ap (λ (l : List (Option ℕ)). None ∷ l) (all_unknown n)
