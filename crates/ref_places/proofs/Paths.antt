-- A path of which something is left differs from one of which nothing is.
use Rattle.std.proofs.Common.{◌≡◌, ℕ, zero, suc, ◌<◌, false, List, [], ◌∷◌, length, drop, refl, arith}
use Rattle.c_types.specs.declared.term.PathStep.{PathStep}
use Rattle.ref_places.specs.Pointers.{same_path}

pub none_left : (i : ℕ) (p q : List PathStep) → i < length p → length q < 1 → same_path (drop i p) q ≡ false
none_left zero [] q lt h = absurd (omega arith)
none_left zero (a ∷ p) [] lt h = refl
none_left zero (a ∷ p) (b ∷ q) lt h = absurd (omega arith)
none_left (suc i) [] q lt h = absurd (omega arith)
none_left (suc i) (a ∷ p) q lt h = none_left i p q (omega arith) h
