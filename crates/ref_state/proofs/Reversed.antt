-- A list with one item set, from the other end.
use Rattle.std.proofs.Common.{arith, ◌≡◌, ◌≢◌, ℕ, ◌-◌, ◌<◌, ◌⊎◌, inl, inr, true, false, eqb, List, length, reverse, get_or, slice_set, slice_get, Some, ap, sym, ◌∙◌}
use Rattle.std.proofs.lemmas.Bool.Decides.{eqb_tells}
use Rattle.std.proofs.lemmas.List.{ext_get_or, get_or-reverse, get_or-set_same, get_or-set_other, length-set, length-reverse}
use Rattle.std.proofs.lemmas.Option.{slice_get-get_or}

module _ {X : Type 0} (xs : List X) (k : ℕ) (y : X) (within : k < length xs) where
  abbrev written : List X
  written = slice_set xs (length xs - 1 - k) y

  one : (i : ℕ) → i < length (reverse written) → ((eqb i k ≡ true) × (i ≡ k)) ⊎ ((eqb i k ≡ false) × (i ≢ k))
      → get_or (reverse written) i y ≡ get_or (slice_set (reverse xs) k y) i y
  one i lt (inl p) =
      let long : length written ≡ length xs = length-set xs (length xs - 1 - k) y in
      let less : i < length written = omega (arith, lt, length-reverse written) in
      let place : length written - 1 - i ≡ length xs - 1 - k = omega (arith, long, p.1) in
      let left : get_or (reverse written) i y ≡ y =
      get_or-reverse written i y less
      ∙ (ap (λ (n : ℕ). get_or written n y) place
      ∙ get_or-set_same xs (length xs - 1 - k) y y (omega (arith, within))) in
      let right : get_or (slice_set (reverse xs) k y) i y ≡ y =
      ap (λ (n : ℕ). get_or (slice_set (reverse xs) k y) n y) p.1
      ∙ get_or-set_same (reverse xs) k y y (omega (arith, within, length-reverse xs)) in
      left ∙ sym right
  one i lt (inr p) =
      let long : length written ≡ length xs = length-set xs (length xs - 1 - k) y in
      let less : i < length xs = omega (arith, lt, length-reverse written, long) in
      let other : length xs - 1 - i ≢ length xs - 1 - k = λ (e : length xs - 1 - i ≡ length xs - 1 - k). p.1 (omega (arith, e, less, within)) in
      get_or-reverse written i y (omega (arith, less, long))
      ∙ (ap (λ (n : ℕ). get_or written (n - 1 - i) y) long
      ∙ (get_or-set_other xs (length xs - 1 - k) (length xs - 1 - i) y y other
      ∙ (sym (get_or-reverse xs i y less)
      ∙ sym (get_or-set_other (reverse xs) k i y y p.1))))

  pub reverse_set : reverse written ≡ slice_set (reverse xs) k y
  reverse_set =
      ext_get_or y (reverse written) (slice_set (reverse xs) k y)
      (omega (arith, length-reverse written, length-reverse xs, length-set xs (length xs - 1 - k) y, length-set (reverse xs) k y))
      (λ i lt. one i lt (eqb_tells i k))

  pub reverse_get : slice_get (reverse xs) k ≡ Some (get_or xs (length xs - 1 - k) y)
  reverse_get =
      slice_get-get_or (reverse xs) k y (omega (arith, within, length-reverse xs))
      ∙ ap Some (get_or-reverse xs k y within)
