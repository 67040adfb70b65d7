-- Sums over lists without repetition.
use Rattle.std.proofs.Common.{◌≡◌, ◌≢◌, ℕ, zero, suc, ◌+◌, ◌<◌, ◌≤◌, ◌⊎◌, List, [], ◌∷◌, ◌++◌, length, get_or, Contains, AllPairs, refl, sym, ap, ◌∙◌, subst, inl, inr, arith}
use Rattle.std.specs.List.{sum_by}
use Rattle.std.proofs.lemmas.List.Sums.{sum_by-cons}
use Rattle.std.proofs.lemmas.List.Elements.{Contains-get_or}
use Rattle.std.proofs.lemmas.List.Kept.{AllPairs-cons}

module _ {A : Type 0} where
  abbrev pub In : A → List A → Type 0
  In x [] = ⊥
  In x (y ∷ ys) = (x ≡ y) ⊎ In x ys

  abbrev pub IsApart : List A → Type 0
  IsApart [] = Unit {0}
  IsApart (x ∷ xs) = (¬ In x xs) × IsApart xs

  in_at : (xs : List A) (k : ℕ) (x : A) → k < length xs → get_or xs k x ≡ x → In x xs
  in_at [] k x lt e = absurd (omega arith)
  in_at (y ∷ ys) zero x lt e = inl (sym e)
  in_at (y ∷ ys) (suc k) x lt e = inr (in_at ys k x (omega arith) e)

  pub in_list : (xs : List A) (x : A) → Contains xs x → In x xs
  in_list xs x h = in_at xs h.0 x h.1 h.2

  place : (xs : List A) (x : A) → In x xs → (k : ℕ) × (k < length xs) × ((d : A) → get_or xs k d ≡ x)
  place [] x i = absurd i
  place (y ∷ ys) x (inl e) = (0, omega arith, λ d. sym e)
  place (y ∷ ys) x (inr i) = let p = place ys x i in (suc p.0, (let l = p.1 in omega arith), p.2)

  pub list_has : (xs : List A) (x : A) → In x xs → Contains xs x
  list_has xs x i = let p = place xs x i in (p.0, p.1, p.2 x)

  pub apart_list : (xs : List A) → AllPairs (λ (one other : A). one ≢ other) xs → IsApart xs
  apart_list [] h = tt
  apart_list (y ∷ ys) h = (
    λ i. (let p = place ys y i in let l = p.1 in h 0 (suc p.0) y (omega arith) (omega arith) (sym (p.2 y))),
    apart_list ys (λ i j d lt long. h (suc i) (suc j) d (omega arith) (omega arith)),
  )

  pub list_apart : (xs : List A) → IsApart xs → AllPairs (λ (one other : A). one ≢ other) xs
  list_apart [] h = λ i j d lt long. absurd (omega arith)
  list_apart (y ∷ ys) h = AllPairs-cons (λ (one other : A). one ≢ other) y ys (λ k d lt e. h.0 (subst (λ (z : A). In z ys) (sym e) (in_list ys (get_or ys k d) (Contains-get_or ys k d lt)))) (list_apart ys h.1)

  pub in_append : (xs ys : List A) (x : A) → In x (xs ++ ys) → In x xs ⊎ In x ys
  in_append [] ys x i = inr i
  in_append (z ∷ xs) ys x (inl e) = inl (inl e)
  in_append (z ∷ xs) ys x (inr i) = elim (in_append xs ys x i) [ inl a ↦ inl (inr a) | inr b ↦ inr b ]

  pub apart_append : (xs ys : List A) → IsApart xs → IsApart ys → ((x : A) → In x xs → In x ys → ⊥) → IsApart (xs ++ ys)
  apart_append [] ys a b none = b
  apart_append (x ∷ xs) ys a b none = (
    λ i. elim (in_append xs ys x i) [ inl l ↦ a.0 l | inr r ↦ none x (inl refl) r ],
    apart_append xs ys a.1 b (λ z l r. none z (inr l) r),
  )

  without : (x : A) (ys : List A) → In x ys → List A
  without x [] i = absurd i
  without x (y ∷ ys) (inl e) = ys
  without x (y ∷ ys) (inr i) = y ∷ without x ys i

  sum_without : (f : A → ℕ) (x : A) (ys : List A) (i : In x ys) → f x + sum_by f (without x ys i) ≡ sum_by f ys
  unfolding without
  sum_without f x [] i = absurd i
  sum_without f x (y ∷ ys) (inl e) = ap (λ z. f z + sum_by f ys) e ∙ sym (sum_by-cons f y ys)
  sum_without f x (y ∷ ys) (inr i) = let h : f x + sum_by f (without x ys i) ≡ sum_by f ys = sum_without f x ys i in
      let a : sum_by f (y ∷ without x ys i) ≡ f y + sum_by f (without x ys i) = sum_by-cons f y (without x ys i) in let b : sum_by f (y ∷ ys) ≡ f y + sum_by f ys = sum_by-cons f y ys in omega arith

  in_without : (x e : A) (ys : List A) (i : In x ys) → In e ys → e ≢ x → In e (without x ys i)
  unfolding without
  in_without x e [] i j ne = absurd i
  in_without x e (y ∷ ys) (inl at) (inl there) ne = absurd (ne (there ∙ sym at))
  in_without x e (y ∷ ys) (inl at) (inr there) ne = there
  in_without x e (y ∷ ys) (inr i) (inl there) ne = inl there
  in_without x e (y ∷ ys) (inr i) (inr there) ne = inr (in_without x e ys i there ne)

  pub sum_within : (f : A → ℕ) (xs ys : List A) → IsApart xs → ((e : A) → In e xs → In e ys) → sum_by f xs ≤ sum_by f ys
  sum_within f [] ys apart all = omega arith
  sum_within f (x ∷ xs) ys apart all =
      let i : In x ys = all x (inl (λ k. x)) in
      let rest : sum_by f xs ≤ sum_by f (without x ys i) = sum_within f xs (without x ys i) apart.1 (λ e j. in_without x e ys i (all e (inr j)) (λ same. apart.0 (subst (λ (z : A). In z xs) same j))) in
      let whole : f x + sum_by f (without x ys i) ≡ sum_by f ys = sum_without f x ys i in
      let c : sum_by f (x ∷ xs) ≡ f x + sum_by f xs = sum_by-cons f x xs in
      omega arith

  length_without : (x : A) (ys : List A) (i : In x ys) → length (without x ys i) + 1 ≡ length ys
  unfolding without
  length_without x [] i = absurd i
  length_without x (y ∷ ys) (inl e) = omega arith
  length_without x (y ∷ ys) (inr i) = let h = length_without x ys i in omega arith

  pub length_within : (xs ys : List A) → IsApart xs → ((e : A) → In e xs → In e ys) → length xs ≤ length ys
  length_within [] ys apart all = omega arith
  length_within (x ∷ xs) ys apart all =
      let i : In x ys = all x (inl (λ k. x)) in
      let rest : length xs ≤ length (without x ys i) = length_within xs (without x ys i) apart.1 (λ e j. in_without x e ys i (all e (inr j)) (λ same. apart.0 (subst (λ (z : A). In z xs) same j))) in
      let whole : length (without x ys i) + 1 ≡ length ys = length_without x ys i in
      omega arith

  pub sum_more : (f g : A → ℕ) (xs : List A) → ((x : A) → f x ≤ g x) → sum_by f xs ≤ sum_by g xs
  sum_more f g [] less = omega arith
  sum_more f g (x ∷ xs) less =
      let a : f x ≤ g x = less x in
      let b : sum_by f xs ≤ sum_by g xs = sum_more f g xs less in
      let c : sum_by f (x ∷ xs) ≡ f x + sum_by f xs = sum_by-cons f x xs in
      let d : sum_by g (x ∷ xs) ≡ g x + sum_by g xs = sum_by-cons g x xs in
      omega arith
