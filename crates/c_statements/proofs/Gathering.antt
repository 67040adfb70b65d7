-- What some numbers bring, gathered in a loop.
use Rattle.std.proofs.Common.{arith, ◌≡◌, ℕ, zero, suc, ◌+◌, ◌<◌, ◌≤◌, List, [], ◌∷◌, ◌++◌, length, get_or, drop, append_assoc, append-nil, refl, sym, ap, ◌∙◌}
use Rattle.std.proofs.lemmas.List.{drop_more}
use Rattle.c_statements.specs.Parts.{gathered}

drop_nil : (k : ℕ) → drop {A = ℕ} k [] ≡ []
drop_nil zero = refl
drop_nil (suc k) = refl

pub drop_past : (xs : List ℕ) (i : ℕ) → length xs ≤ i → drop i xs ≡ []
drop_past [] i h = drop_nil i
drop_past (x ∷ xs) zero h = absurd (omega arith)
drop_past (x ∷ xs) (suc i) h = drop_past xs i (omega arith)

-- one more has been gathered
pub gathered_more : (f : ℕ → List ℕ) (list : List ℕ) (i : ℕ) (before now next : List ℕ) → i < length list → next ≡ now ++ f (get_or list i 0) → now ++ gathered f (drop i list) ≡ before ++ gathered f list → next ++ gathered f (drop (i + 1) list) ≡ before ++ gathered f list
gathered_more f list i before now next h e so_far =
    ap (λ (xs : List ℕ). xs ++ gathered f (drop (i + 1) list)) e
    ∙ (append_assoc now (f (get_or list i 0)) (gathered f (drop (i + 1) list))
    ∙ (sym (ap (λ (xs : List ℕ). now ++ gathered f xs) (drop_more list i 0 h)) ∙ so_far))

-- all have been
pub gathered_all : (f : ℕ → List ℕ) (list : List ℕ) (i : ℕ) (now before : List ℕ) → length list ≤ i → now ++ gathered f (drop i list) ≡ before ++ gathered f list → now ≡ before ++ gathered f list
gathered_all f list i now before h e = sym (ap (λ (xs : List ℕ). now ++ gathered f xs) (drop_past list i h) ∙ append-nil now) ∙ e
