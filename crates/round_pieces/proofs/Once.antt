-- Rows that stand once in a list.
use Rattle.std.proofs.Common.{◌≡◌, ◌≢◌, ℕ, suc, ◌+◌, ◌*◌, ◌<◌, ◌≤◌, List, [], ◌∷◌, ◌++◌, length, get_or, map, Some, slice_get, Contains, refl, sym, ap, ◌∙◌, subst, inl, inr, arith}
use Rattle.std.proofs.lemmas.Bool.{cases_order}
use Rattle.std.proofs.lemmas.Nat.{same_from_place}
use Rattle.std.proofs.lemmas.Option.{slice_get_within, get_or_from_slice_get}
use Rattle.std.proofs.lemmas.List.{map-append}
use Rattle.std.proofs.lemmas.List.Elements.{Contains-get_or}
use Rattle.std.proofs.lemmas.List.Quantifiers.{all_pairs_push}
use Rattle.round_pieces.specs.declared.delta_prop.turn.Turn.{Turn}
use Rattle.round_pieces.specs.Turns.{row_of, all_of}
use Rattle.round_pieces.specs.Rounds.{AreRowsApart}
use Rattle.round_pieces.proofs.Sums.{In, IsApart, in_append, apart_append}

-- a number stands at one place only
pub one_place : (xs : List ℕ) → AreRowsApart xs → (i j x : ℕ) → slice_get xs i ≡ Some x → slice_get xs j ≡ Some x → i ≡ j
one_place xs once i j x a b =
    let same : get_or xs i 0 ≡ get_or xs j 0 = get_or_from_slice_get xs i x 0 a ∙ sym (get_or_from_slice_get xs j x 0 b) in
    elim (cases_order i j) [
      | inl e ↦ e
      | inr apart ↦ elim apart [
        | inl lt ↦ absurd (once i j 0 lt (slice_get_within xs j x b) same)
        | inr gt ↦ absurd (once j i 0 gt (slice_get_within xs i x a) (sym same))
      ]
    ]

pub distinct_push : (xs : List ℕ) (x : ℕ) → AreRowsApart xs → (Contains xs x → ⊥) → AreRowsApart (xs ++ x ∷ [])
distinct_push xs x once none = all_pairs_push (λ (one other : ℕ). one ≢ other) xs x once (λ k d lt e. none (subst (Contains xs) e (Contains-get_or xs k d lt)))

at_in : {A : Type 0} (xs : List A) (x : A) → In x xs → (k : ℕ) × (slice_get xs k ≡ Some x)
at_in [] x i = absurd i
at_in (y ∷ ys) x (inl e) = (0, ap Some (sym e))
at_in (y ∷ ys) x (inr i) = let p = at_in ys x i in (suc p.0, p.1)

apart_from_places : {A : Type 0} (xs : List A) → ((i j : ℕ) (x : A) → slice_get xs i ≡ Some x → slice_get xs j ≡ Some x → i ≡ j) → IsApart xs
apart_from_places [] h = tt
apart_from_places (y ∷ ys) h = (
  λ i. (let p = at_in ys y i in absurd (let e : suc p.0 ≡ 0 = h (suc p.0) 0 y p.1 refl in omega arith)),
  apart_from_places ys (λ i j x a b. let e : suc i ≡ suc j = h (suc i) (suc j) x a b in omega arith),
)

in_shares : (shares : List (List Turn)) (x : ℕ) → In x (map row_of (all_of shares)) → (k : ℕ) × (i : ℕ) × (share : List Turn) × (slice_get shares k ≡ Some share) × (slice_get (map row_of share) i ≡ Some x)
in_shares [] x i = absurd i
in_shares (s ∷ rest) x i = elim (in_append (map row_of s) (map row_of (all_of rest)) x (subst (In x) (map-append row_of s (all_of rest)) i)) [
  | inl l ↦ (let p = at_in (map row_of s) x l in (0, p.0, s, refl, p.1))
  | inr r ↦ (let p = in_shares rest x r in (suc p.0, p.1, p.2, p.3, p.4))
]

-- where a round's rows stand once, its turns' rows do
pub shares_apart : (todo : List ℕ) (workers first : ℕ) (shares : List (List Turn)) → AreRowsApart todo
    → ((k : ℕ) (share : List Turn) → slice_get shares k ≡ Some share → (i : ℕ) → slice_get (map row_of share) i ≡ slice_get todo (first + k + i * workers))
    → length shares + first ≤ workers → IsApart (map row_of (all_of shares))
shares_apart todo workers first [] once rows few = tt
shares_apart todo workers first (s ∷ rest) once rows few =
    let here : first < workers = omega arith in
    let own : (i x : ℕ) → slice_get (map row_of s) i ≡ Some x → slice_get todo (i * workers + first) ≡ Some x = λ i x at. (let e : i * workers + first ≡ first + 0 + i * workers = omega arith in ap (slice_get todo) e ∙ sym (rows 0 s refl i) ∙ at) in
    subst IsApart (sym (map-append row_of s (all_of rest)))
    (apart_append (map row_of s) (map row_of (all_of rest))
    (apart_from_places (map row_of s) (λ i j x a b. (same_from_place i first j first workers here here (one_place todo once (i * workers + first) (j * workers + first) x (own i x a) (own j x b))).0))
    (shares_apart todo workers (suc first) rest once (λ k share at i. (let e : first + suc k + i * workers ≡ suc first + k + i * workers = omega arith in rows (suc k) share at i ∙ ap (slice_get todo) e)) (omega arith))
    (λ x l r. let p = at_in (map row_of s) x l in let q = in_shares rest x r in
    let k : ℕ = q.0 in let j : ℕ = q.1 in
    let less : k < length rest = slice_get_within rest k q.2 q.3 in
    let other : first + suc k < workers = omega arith in
    let there : slice_get todo (j * workers + (first + suc k)) ≡ Some x = (let e : j * workers + (first + suc k) ≡ first + suc k + j * workers = omega arith in ap (slice_get todo) e ∙ sym (rows (suc k) q.2 q.3 j) ∙ q.4) in
    let same = same_from_place p.0 first j (first + suc k) workers here other (one_place todo once (p.0 * workers + first) (j * workers + (first + suc k)) x (own p.0 x p.1) there) in
    absurd (let e = same.1 in omega arith)))

pub none_twice : AreRowsApart []
none_twice i j d lt long = absurd (omega arith)
