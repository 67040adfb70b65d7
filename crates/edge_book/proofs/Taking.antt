-- How a book takes in pairs, one after another.
use Rattle.std.proofs.Common.{◌≡◌, ℕ, ◌+◌, ◌<◌, Bool, true, false, cond, not, Contains, MatchBool, List, [], ◌∷◌, ◌++◌, length, get_or, take, sym, ap, ◌∙◌, inl, inr, arith, length-append, append_assoc, get_or-take}
use Rattle.std.specs.Cmp.{both_ways}
use Rattle.std.specs.List.{filter, list_any}
use Rattle.std.specs.List.Sorted.{IsStrictlySortedBy}
use Rattle.std.proofs.lemmas.Bool.{cases_Bool}
use Rattle.std.proofs.lemmas.List.{append-nil, length-take-le}
use Rattle.std.proofs.lemmas.List.Elements.{filter_more, All-filter, All-contains, Contains-get_or, Contains-append_left, Contains-append_cases}
use Rattle.std.proofs.lemmas.Map.Keys.{Less-from_sorted}
use Rattle.std.proofs.lemmas.Map.Views.{list_any-from_Contains, Contains-from_any}
use Rattle.edge_book.specs.Edges.{same_pair, pair_order, with_pairs}
use Rattle.edge_book.proofs.Pairs.{pair_exact, pair_equiv, not_before}

abbrev pub has : List (ℕ × ℕ) → ℕ × ℕ → Bool
has book pair = list_any (same_pair pair) book

has_it : (book : List (ℕ × ℕ)) (pair : ℕ × ℕ) → Contains book pair → has book pair ≡ true
has_it book pair h = list_any-from_Contains pair_equiv pair book h

lacks_it : (book : List (ℕ × ℕ)) (pair : ℕ × ℕ) → (Contains book pair → ⊥) → has book pair ≡ false
lacks_it book pair h = elim (cases_Bool (has book pair)) [ inl t ↦ absurd (h (Contains-from_any pair_exact pair book t)) | inr f ↦ f ]

-- one pair more or none, by whether the book has it
more_new : (old book new : List (ℕ × ℕ)) (p : ℕ × ℕ) → new ≡ book ++ p ∷ [] → has old p ≡ false → new ≡ book ++ cond (not (has old p)) (p ∷ []) []
more_new old book new p e f = e ∙ ap (λ (b : Bool). book ++ cond (not b) (p ∷ []) []) (sym f)

more_old : (old book new : List (ℕ × ℕ)) (p : ℕ × ℕ) → new ≡ book → has old p ≡ true → new ≡ book ++ cond (not (has old p)) (p ∷ []) []
more_old old book new p e t = e ∙ sym (append-nil book) ∙ ap (λ (b : Bool). book ++ cond (not b) (p ∷ []) []) (sym t)

pub took_one : (old new : List (ℕ × ℕ)) (p : ℕ × ℕ) (b : Bool) → MatchBool b (new ≡ old ++ p ∷ []) (new ≡ old) → MatchBool b (Contains old p → ⊥) (Contains old p) → new ≡ with_pairs old (p ∷ [])
took_one old new p true e h = more_new old old new p e (lacks_it old p h)
took_one old new p false e h = more_old old old new p e (has_it old p h)

pub longer : (old new : List (ℕ × ℕ)) (p : ℕ × ℕ) (b : Bool) → MatchBool b (new ≡ old ++ p ∷ []) (new ≡ old) → length new ≡ length old + cond b 1 0
longer old new p true e = ap length e ∙ length-append old (p ∷ [])
longer old new p false e = let same : length new ≡ length old = ap length e in omega arith

filter_has : (test : ℕ × ℕ → Bool) (xs : List (ℕ × ℕ)) (p : ℕ × ℕ) → Contains (filter test xs) p → Contains xs p
filter_has test xs p h = All-contains (λ x. Contains xs x) (filter test xs) p (All-filter test (λ x. Contains xs x) xs (λ k d lt. Contains-get_or xs k d lt)) h

-- no pair of an ordered list stands among those before it
fresh_at : (pairs : List (ℕ × ℕ)) (i : ℕ) (p : ℕ × ℕ) → IsStrictlySortedBy pair_order pairs → i < length pairs → get_or pairs i p ≡ p → Contains (take i pairs) p → ⊥
fresh_at pairs i p order lt at h =
    let j : ℕ = h.0 in
    let short : length (take i pairs) ≡ i = length-take-le i pairs (omega arith) in
    let less : j < i = (let l = h.1 in omega arith) in
    let there : get_or pairs j p ≡ p = sym (get_or-take i pairs j p less) ∙ h.2 in
    let before = Less-from_sorted pair_order pairs j i p order less lt in
    not_before p (sym (λ k. pair_order (there k) (at k)) ∙ before)

-- what a book has of a pair that it isn't to take in yet, it had at first
same_has : (old pairs : List (ℕ × ℕ)) (i : ℕ) (p : ℕ × ℕ) → IsStrictlySortedBy pair_order pairs → i < length pairs → get_or pairs i p ≡ p → has (with_pairs old (take i pairs)) p ≡ has old p
same_has old pairs i p order lt at =
    let taken : List (ℕ × ℕ) = filter (λ pair. not (has old pair)) (take i pairs) in
    both_ways (has (old ++ taken) p) (has old p)
    (λ t. elim (Contains-append_cases old taken p (Contains-from_any pair_exact p (old ++ taken) t)) [
      | inl o ↦ has_it old p o
      | inr m ↦ absurd (fresh_at pairs i p order lt at (filter_has (λ pair. not (has old pair)) (take i pairs) p m))
    ])
    (λ t. has_it (old ++ taken) p (Contains-append_left old taken p (Contains-from_any pair_exact p old t)))

pub took_next : (old book new pairs : List (ℕ × ℕ)) (i : ℕ) (p : ℕ × ℕ) → IsStrictlySortedBy pair_order pairs → i < length pairs → get_or pairs i p ≡ p → book ≡ with_pairs old (take i pairs)
    → new ≡ with_pairs book (p ∷ []) → new ≡ with_pairs old (take (i + 1) pairs)
took_next old book new pairs i p order lt at so_far e =
    let test : ℕ × ℕ → Bool = λ pair. not (has old pair) in
    let before : List (ℕ × ℕ) = with_pairs old (take i pairs) in
    e ∙ ap (λ (b : List (ℕ × ℕ)). b ++ cond (not (has b p)) (p ∷ []) []) so_far
    ∙ ap (λ (b : Bool). before ++ cond (not b) (p ∷ []) []) (same_has old pairs i p order lt at)
    ∙ append_assoc old (filter test (take i pairs)) (cond (test p) (p ∷ []) [])
    ∙ ap (λ (xs : List (ℕ × ℕ)). old ++ xs) (sym (filter_more test pairs i p lt ∙ ap (λ (q : ℕ × ℕ). filter test (take i pairs) ++ cond (test q) (q ∷ []) []) at))
