-- One assignment more.
use Rattle.std.proofs.Common.{arith, ◌≡◌, ℕ, zero, suc, ◌+◌, ◌<◌, List, [], ◌∷◌, ◌++◌, Bool, true, false, cond, length, length-append, append_assoc, take, get_or, map, refl, ap, sym, ◌∙◌, add-one}
use Rattle.normal_form.specs.declared.each.Each.{Each}
use Rattle.normal_form.specs.declared.normal.Assignment.{Assignment}
use Rattle.std.specs.List.{slice_get}
use Rattle.std.proofs.lemmas.List.{take_all}
use Rattle.std.proofs.Math.Seq.{take-append_seam}
use Rattle.c_types.specs.Trees.{Ctype}
use Rattle.row_numbers.specs.Kept.{is_kept, kept_at, kept_from, kept, kept_count}
use Rattle.normal_form.specs.Each.{made, each_made, made_for}
use Rattle.row_numbers.proofs.SliceLemmas.{get_push_last}
use Rattle.row_numbers.proofs.KeptLemmas.{count_more, count_same}

made_more : (each : Each) (b : ℕ) (kept : List ℕ) (i d : ℕ) → i < length kept → each_made each b (take (suc i) kept) ≡ each_made each b (take i kept) ++ made each (b + i) (get_or kept i d) ∷ []
made_more each b [] i d h = absurd (omega arith)
made_more each b (k ∷ kept) zero d h = ap (λ (n : ℕ). made each n k ∷ []) (omega arith)
made_more each b (k ∷ kept) (suc i) d h =
    ap (λ (xs : List Assignment). made each b k ∷ xs) (made_more each (b + 1) kept i d (omega arith) ∙ ap (λ (n : ℕ). each_made each (b + 1) (take i kept) ++ made each n (get_or kept i d) ∷ []) (omega arith))

pub each_more : (each : Each) (kept : List ℕ) (i d : ℕ) → i < length kept → each_made each 0 (take (i + 1) kept) ≡ each_made each 0 (take i kept) ++ made each i (get_or kept i d) ∷ []
each_more each kept i d h = rw add-one (made_more each 0 kept i d h ∙ ap (λ (n : ℕ). each_made each 0 (take i kept) ++ made each n (get_or kept i d) ∷ []) (omega arith))

count_snoc_by : (pre : List Ctype) (t : Ctype) (b : Bool) → is_kept t ≡ b → kept_count (pre ++ t ∷ []) ≡ kept_count pre + cond b 1 0
count_snoc_by pre t true h =
    let here : kept_at (slice_get (pre ++ t ∷ []) (length pre)) ≡ true = ap kept_at (get_push_last pre t) ∙ h in
    let lt : length pre < length (pre ++ t ∷ []) = omega (arith, length-append pre (t ∷ [])) in
    let all : take (length pre + 1) (pre ++ t ∷ []) ≡ pre ++ t ∷ [] = take_all (length pre + 1) (pre ++ t ∷ []) (omega (arith, length-append pre (t ∷ []))) in
    let front : take (length pre) (pre ++ t ∷ []) ≡ pre = take-append_seam pre (t ∷ []) in
    ap kept_count (sym all) ∙ (count_more (pre ++ t ∷ []) (length pre) lt here ∙ ap (λ (xs : List Ctype). kept_count xs + 1) front)
count_snoc_by pre t false h =
    let here : kept_at (slice_get (pre ++ t ∷ []) (length pre)) ≡ false = ap kept_at (get_push_last pre t) ∙ h in
    let lt : length pre < length (pre ++ t ∷ []) = omega (arith, length-append pre (t ∷ [])) in
    let all : take (length pre + 1) (pre ++ t ∷ []) ≡ pre ++ t ∷ [] = take_all (length pre + 1) (pre ++ t ∷ []) (omega (arith, length-append pre (t ∷ []))) in
    let front : take (length pre) (pre ++ t ∷ []) ≡ pre = take-append_seam pre (t ∷ []) in
    ap kept_count (sym all) ∙ (count_same (pre ++ t ∷ []) (length pre) lt here ∙ (ap kept_count front ∙ omega arith))

module _ (each : Each) where
  at_node : List Ctype → ℕ → Assignment
  at_node all i = made each (kept_count (take i all)) i

  two_by : (b : Bool) (before s : ℕ) (xs : List ℕ) (all : List Ctype) → (b ≡ true → before ≡ kept_count (take s all)) → each_made each (before + cond b 1 0) xs ≡ map (λ i. made each (kept_count (take i all)) i) xs → each_made each before (cond b (s ∷ xs) xs) ≡ map (λ i. made each (kept_count (take i all)) i) (cond b (s ∷ xs) xs)
  two_by true before s xs all h rest = rw (rest, ← h refl) refl
  two_by false before s xs all h rest = ap (λ (n : ℕ). each_made each n xs) (omega arith) ∙ rest

  along : (pre rest all : List Ctype) → all ≡ pre ++ rest → each_made each (kept_count pre) (kept_from (length pre) rest) ≡ map (λ i. made each (kept_count (take i all)) i) (kept_from (length pre) rest)
  along pre [] all e = refl
  along pre (t ∷ rest) all e =
      let whole : all ≡ (pre ++ t ∷ []) ++ rest = e ∙ sym (append_assoc pre (t ∷ []) rest) in
      let count : kept_count (pre ++ t ∷ []) ≡ kept_count pre + cond (is_kept t) 1 0 = count_snoc_by pre t (is_kept t) refl in
      let long : length (pre ++ t ∷ []) ≡ length pre + 1 = length-append pre (t ∷ []) in
      let front : take (length pre) all ≡ pre = ap (take (length pre)) e ∙ take-append_seam pre (t ∷ rest) in
      two_by (is_kept t) (kept_count pre) (length pre) (kept_from (length pre + 1) rest) all (λ q. ap kept_count (sym front)) (rw (count, long) at (along (pre ++ t ∷ []) rest all whole))

pub each_is : (each : Each) (nodes : List Ctype) → each_made each 0 (kept nodes) ≡ made_for each nodes
each_is each nodes = along each [] nodes nodes refl
