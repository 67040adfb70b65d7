-- Members that are listed bit by bit.
use Rattle.std.proofs.Common.{◌≡◌, ℕ, ◌+◌, Bool, cond, List, [], ◌∷◌, ◌++◌, refl, sym, ◌∙◌, ap, append_assoc}
use Rattle.std.specs.List.{filter, range_with_len}
use Rattle.call_graph.proofs.row_members.Ranges.{filter_range_more}

-- one location more
pub bit_next : (p : ℕ → Bool) (a i : ℕ) (old now after : List ℕ) (b : Bool) → now ≡ old ++ filter p (range_with_len a i) → p (a + i) ≡ b → after ≡ now ++ cond b ((a + i) ∷ []) [] → after ≡ old ++ filter p (range_with_len a (i + 1))
bit_next p a i old now after b is passes more =
    more
    ∙ (ap (λ (xs : List ℕ). xs ++ cond b ((a + i) ∷ []) []) is
    ∙ (append_assoc old (filter p (range_with_len a i)) (cond b ((a + i) ∷ []) [])
    ∙ ap (λ (xs : List ℕ). old ++ xs) (sym (filter_range_more p a i (a + i) refl ∙ ap (λ (c : Bool). filter p (range_with_len a i) ++ cond c ((a + i) ∷ []) []) passes))))
