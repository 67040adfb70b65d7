-- What is found at the first so many numbers, in order.
use Rattle.std.proofs.Common.{arith, ◌≡◌, ◌∙◌, ℕ, zero, suc, ◌+◌, ◌<◌, List, [], ◌∷◌, ◌++◌, append-nil, Option, Some, None, length, map, slice_get, refl, sym, ap, subst, inl, inr}
use Rattle.std.specs.List.{range_with_len, filter_map, cons_option, AllZip, enumerate_from}
use Rattle.std.proofs.lemmas.Bool.{cases_lt}
use Rattle.std.proofs.lemmas.List.FromFn.{map-range_with_len_more}
use Rattle.std.proofs.lemmas.List.Elements.{filter_map-append}
use Rattle.std.proofs.lemmas.Option.{slice_get_within}
use Rattle.row_numbers.proofs.SliceLemmas.{get_push_last, get_push_before, get_push_cases}

some_one : {X : Type 0} → {x y : X} → ◌≡◌ {A = Option X} (Some x) (Some y) → x ≡ y
some_one h = cc

none_some : {X : Type 0} → {x : X} → ◌≡◌ {A = Option X} None (Some x) → ⊥
none_some h = cc

module _ {K : Type 0} (f : ℕ → Option K) where
  -- what f finds at the first so many numbers
  abbrev pub compact : ℕ → List K
  compact n = filter_map (λ (found : Option K). found) (map f (range_with_len 0 n))

  one_more : (n : ℕ) → compact (suc n) ≡ compact n ++ cons_option (f n) []
  one_more n =
      let next : suc n ≡ n + 1 = omega arith in
      ap compact next
      ∙ (ap (filter_map (λ (found : Option K). found)) (map-range_with_len_more f 0 n n (omega arith)) ∙ filter_map-append (λ (found : Option K). found) (map f (range_with_len 0 n)) (f n ∷ []))

  -- where something found was found
  pub record IsFoundAt (n i : ℕ) (x : K) : Type 0 where
    pub at : ℕ
    pub within : at < n
    pub found : f at ≡ Some x
    pub place : i ≡ length (compact at)

  by_last : (n i : ℕ) (x : K) (o : Option K) → f n ≡ o → slice_get (compact n ++ cons_option o []) i ≡ Some x → (slice_get (compact n) i ≡ Some x → IsFoundAt n i x) → IsFoundAt (suc n) i x
  by_last n i x None is at before =
      let b = before (ap (λ (l : List K). slice_get l i) (sym (append-nil (compact n))) ∙ at) in
      let w = b.within in
      record { at = b.at; within = omega arith; found = b.found; place = b.place }
  by_last n i x (Some y) is at before = elim (get_push_cases (compact n) y x i at) [
    | inl less ↦
        let b = before less in
        let w = b.within in
        record { at = b.at; within = omega arith; found = b.found; place = b.place }
    | inr last ↦ record { at = n; within = omega arith; found = is ∙ ap Some (sym last.1); place = last.0 }
  ]

  pub found_at : (n i : ℕ) (x : K) → slice_get (compact n) i ≡ Some x → IsFoundAt n i x
  found_at zero i x h = cc
  found_at (suc n) i x h = by_last n i x (f n) refl (sym (ap (λ (l : List K). slice_get l i) (one_more n)) ∙ h) (found_at n i x)

  before_last : (n i : ℕ) (x : K) (o : Option K) → slice_get (compact n) i ≡ Some x → slice_get (compact n ++ cons_option o []) i ≡ Some x
  before_last n i x None h = ap (λ (l : List K). slice_get l i) (append-nil (compact n)) ∙ h
  before_last n i x (Some y) h = get_push_before (compact n) y x i h

  -- what is found at a number stands behind what is found before it
  pub stands_at : (n l : ℕ) (x : K) → l < n → f l ≡ Some x → slice_get (compact n) (length (compact l)) ≡ Some x
  stands_at zero l x lt is = absurd (omega arith)
  stands_at (suc n) l x lt is = elim (cases_lt l n) [
    | inl less ↦ ap (λ (c : List K). slice_get c (length (compact l))) (one_more n) ∙ before_last n (length (compact l)) x (f n) (stands_at n l x less is)
    | inr ge ↦
        let same : l ≡ n = omega arith in
        ap (λ (c : List K). slice_get c (length (compact l))) (one_more n)
        ∙ (ap (λ (m : ℕ). slice_get (compact n ++ cons_option (f n) []) (length (compact m))) same
        ∙ (ap (λ (o : Option K). slice_get (compact n ++ cons_option o []) (length (compact n))) (sym (ap f same) ∙ is) ∙ get_push_last (compact n) x))
  ]

  -- more is found before the later one of two
  pub rises : (l m : ℕ) (x : K) → l < m → f l ≡ Some x → length (compact l) < length (compact m)
  rises l m x lt is = slice_get_within (compact m) (length (compact l)) x (stands_at m l x lt is)

  pub once : (l m : ℕ) (x y : K) → f l ≡ Some x → f m ≡ Some y → length (compact l) ≡ length (compact m) → l ≡ m
  once l m x y a b e = elim (cases_lt l m) [
    | inl less ↦ absurd (let r = rises l m x less a in omega arith)
    | inr ge ↦ elim (cases_lt m l) [
      | inl more ↦ absurd (let r = rises m l y more b in omega arith)
      | inr le ↦ omega arith
    ]
  ]

-- lists side by side
pub zip_right : {A B : Type 0} (R : A → B → Type 0) (xs : List A) (ys : List B) (i : ℕ) (y : B) → AllZip R xs ys → slice_get ys i ≡ Some y → (x : A) × (slice_get xs i ≡ Some x) × R x y
zip_right R [] [] i y h at = absurd (none_some at)
zip_right R [] (z ∷ ys) i y h at = absurd h
zip_right R (x ∷ xs) [] i y h at = absurd h
zip_right R (x ∷ xs) (z ∷ ys) zero y h at = (x, refl, subst (R x) (some_one at) h.0)
zip_right R (x ∷ xs) (z ∷ ys) (suc i) y h at = zip_right R xs ys i y h.1 at

pub zip_length : {A B : Type 0} (R : A → B → Type 0) (xs : List A) (ys : List B) → AllZip R xs ys → length ys ≡ length xs
zip_length R [] [] h = refl
zip_length R [] (y ∷ ys) h = absurd h
zip_length R (x ∷ xs) [] h = absurd h
zip_length R (x ∷ xs) (y ∷ ys) h = ap suc (zip_length R xs ys h.1)

zero_more : (m : ℕ) → m ≡ m + 0
zero_more m = omega arith

pub numbered_at : {A : Type 0} (n : ℕ) (xs : List A) (i : ℕ) (e : ℕ × A) → slice_get (enumerate_from n xs) i ≡ Some e → (e.0 ≡ n + i) × (slice_get xs i ≡ Some e.1)
numbered_at n [] i e h = absurd (none_some h)
numbered_at {A = A} n (x ∷ xs) zero e h =
    let same = some_one h in
    (sym (ap (λ (p : ℕ × A). p.0) same) ∙ zero_more n, ap Some (ap (λ (p : ℕ × A). p.1) same))
numbered_at n (x ∷ xs) (suc i) e h = (let r = numbered_at (n + 1) xs i e h in ((let q = r.0 in omega arith), r.1))

pub numbered_length : {A : Type 0} (n : ℕ) (xs : List A) → length (enumerate_from n xs) ≡ length xs
numbered_length n [] = refl
numbered_length n (x ∷ xs) = ap suc (numbered_length (n + 1) xs)
