-- Rows by their children.
use Rattle.std.proofs.Common.{arith, ◌≡◌, ◌<◌, ◌≤◌, ℕ, not, Bool, true, cond, List, [], ◌∷◌, Some, length, get_or, drop, refl, sym, ap, ◌∙◌}
use Rattle.c_grammar.specs.Productions.{p_cast}
use Rattle.c_senses.specs.Given.{Fits}
use Rattle.c_senses.specs.World.{World}
use Rattle.c_senses.specs.Tree.{Source, is_a, is_leaf, last_where, place_at}
use Rattle.c_senses.specs.Sense.{Sense}
use Rattle.c_senses.specs.Expressions as whole
use Rattle.c_senses.specs.Expressions.{as_sense}
use Rattle.expression_rows.specs.whole_rows.Whole.{assigned_parts, chosen_parts, cast_parts}

module _ (w : World) (s : Source) (sense : ℕ → Sense) (at : ℕ) where
  pub three_of : (xs : List ℕ) → 3 ≤ length xs → length xs < 4 → as_sense (assigned_parts w s sense at (get_or xs 0 0) (get_or xs 1 0) (get_or xs 2 0)) ≡ whole.assignment_row w s sense at xs
  three_of [] h g = absurd (omega arith)
  three_of (p ∷ []) h g = absurd (omega arith)
  three_of (p ∷ o ∷ []) h g = absurd (omega arith)
  three_of (p ∷ o ∷ v ∷ []) h g = refl
  three_of (p ∷ o ∷ v ∷ x ∷ xs) h g = absurd (omega arith)

  pub five_of : (xs : List ℕ) → 5 ≤ length xs → length xs < 6 → as_sense (chosen_parts w s sense (place_at s (get_or xs 1 0)) at (get_or xs 0 0) (get_or xs 2 0) (get_or xs 4 0)) ≡ whole.conditional_row w s sense at xs
  five_of [] h g = absurd (omega arith)
  five_of (a ∷ []) h g = absurd (omega arith)
  five_of (a ∷ b ∷ []) h g = absurd (omega arith)
  five_of (a ∷ b ∷ c ∷ []) h g = absurd (omega arith)
  five_of (a ∷ b ∷ c ∷ d ∷ []) h g = absurd (omega arith)
  five_of (a ∷ b ∷ c ∷ d ∷ e ∷ []) h g = refl
  five_of (a ∷ b ∷ c ∷ d ∷ e ∷ f ∷ xs) h g = absurd (omega arith)

  pub cast_of : (xs rest : List ℕ) (part : ℕ) → 0 < length xs → rest ≡ drop 1 xs → is_leaf s (get_or xs 0 0) ≡ true → Some part ≡ last_where (λ c. not (is_leaf s c)) rest → is_a s p_cast part ≡ true → (length rest ≡ 0 → ⊥) → as_sense (cast_parts w s sense at (get_or rest 0 0) part) ≡ whole.cast_row_of w s sense at xs
  cast_of [] rest part some er leafy found cast more = absurd (omega arith)
  cast_of (x ∷ []) rest part some er leafy found cast more = absurd (more (ap length er))
  cast_of (x ∷ t ∷ tail) rest part some er leafy found cast more =
      let here : Some part ≡ last_where (λ c. not (is_leaf s c)) (t ∷ tail) = found ∙ ap (last_where (λ c. not (is_leaf s c))) er in
      ap (λ (l : List ℕ). as_sense (cast_parts w s sense at (get_or l 0 0) part)) er
      ∙ sym
      (ap (whole.cast_of w s sense at x (t ∷ tail)) leafy
      ∙ (ap (whole.cast_last w s sense at (t ∷ tail)) (sym here)
      ∙ ap (λ (b : Bool). cond b (as_sense (cast_parts w s sense at t part)) (Fits (sense part))) cast))
