-- Rows that are dealt out so that each worker's share is a run of neighbours.
use Rattle.std.proofs.Common.{◌≡◌, ◌≢◌, ◌⊎◌, ◌↔◌, ℕ, zero, suc, ◌+◌, ◌-◌, ◌*◌, ◌/◌, ◌%◌, ◌<◌, ◌≤◌, List, [], ◌∷◌, ◌++◌, length, Some, slice_get, Contains, sym, ap, ◌∙◌, subst, inl, inr, arith, add-mul, one-mul, mul_comm, mul-le-mul_right, div-add-mod'}
use Rattle.std.proofs.lemmas.Bool.{cases_eq, cases_lt, cases_order}
use Rattle.std.proofs.lemmas.Option.{same_Some}
use Rattle.std.proofs.lemmas.Nat.{mod_below, div-mul-add, mod-mul-add}
use Rattle.std.proofs.lemmas.List.Elements.{Contains-append_left, Contains-push, Contains-push_cases}
use Rattle.sol_model.proofs.Members.{Contains-at, at_Contains}
use Rattle.round_pieces.specs.Rounds.{AreRowsApart}
use Rattle.round_pieces.proofs.Once.{distinct_push, one_place}

-- where the run of a worker begins, of n rows in w runs: the first n % w runs have a row more than the others
abbrev run_start : ℕ → ℕ → ℕ → ℕ
run_start n w k = k * (n / w) + (k - (k - n % w))

-- the place of piece i: as far in its worker's run as the worker had pieces before it
abbrev pub place_of : ℕ → ℕ → ℕ → ℕ
place_of n w i = (i % w) * (n / w) + (i % w - (i % w - n % w)) + i / w

one_more : (k q : ℕ) → (k + 1) * q ≡ k * q + q
one_more k q = add-mul k 1 q ∙ ap (λ (x : ℕ). k * q + x) (one-mul q)

-- a worker has a piece for each row of the shortest runs, and the first ones have another
piece_few : (n w i : ℕ) → i < n → 0 < w → (i / w < n / w) ⊎ ((i / w ≡ n / w) × (i % w < n % w))
piece_few n w i lt some =
    let a : ℕ = i / w in
    let q : ℕ = n / w in
    let whole : a * w + i % w ≡ i = div-add-mod' i w in
    let all : q * w + n % w ≡ n = div-add-mod' n w in
    let less = mod_below n w some in
    elim (cases_lt q a) [
      | inl gt ↦ absurd (let m : (q + 1) * w ≤ a * w = mul-le-mul_right w (let h : q + 1 ≤ a = omega arith in h) in let e = one_more q w in omega arith)
      | inr le ↦ elim (cases_eq a q) [
        | inl e ↦ (let f : a * w ≡ q * w = ap (λ (x : ℕ). x * w) e in inr (e, omega arith))
        | inr ne ↦ inl (omega arith)
      ]
    ]

-- a piece's place is before the next worker's run
place_before : (n w i : ℕ) → i < n → 0 < w → place_of n w i < run_start n w (i % w + 1)
place_before n w i lt some = let e = one_more (i % w) (n / w) in elim (piece_few n w i lt some) [
  | inl l ↦ omega arith
  | inr f ↦ (let a = f.0 in let b = f.1 in omega arith)
]

run_further : (n w k j : ℕ) → k ≤ j → run_start n w k ≤ run_start n w j
run_further n w k j le = let m : k * (n / w) ≤ j * (n / w) = mul-le-mul_right (n / w) le in omega arith

run_last : (n w : ℕ) → 0 < w → run_start n w w ≡ n
run_last n w some =
    let all : (n / w) * w + n % w ≡ n = div-add-mod' n w in
    let less = mod_below n w some in
    let c : w * (n / w) ≡ (n / w) * w = mul_comm w (n / w) in omega arith

pub place_below : (n w i : ℕ) → i < n → 0 < w → place_of n w i < n
place_below n w i lt some =
    let b = place_before n w i lt some in
    let k = mod_below i w some in
    let f = run_further n w (i % w + 1) w (let h : i % w + 1 ≤ w = omega arith in h) in
    let e = run_last n w some in omega arith

-- what is in the run of a lower worker isn't in that of a higher one
place_higher : (n w i j : ℕ) → i < n → 0 < w → i % w < j % w → place_of n w i < place_of n w j
place_higher n w i j lt some less =
    let b = place_before n w i lt some in
    let f = run_further n w (i % w + 1) (j % w) (let h : i % w + 1 ≤ j % w = omega arith in h) in omega arith

place_apart : (n w i j : ℕ) → i < n → j < n → 0 < w → place_of n w i ≡ place_of n w j → i ≡ j
place_apart n w i j lt less some same = elim (cases_order (i % w) (j % w)) [
  | inl e ↦ (
      let p : (i % w) * (n / w) ≡ (j % w) * (n / w) = ap (λ (x : ℕ). x * (n / w)) e in
      let q : i / w ≡ j / w = omega arith in
      let r : (i / w) * w ≡ (j / w) * w = ap (λ (x : ℕ). x * w) q in
      let a : (i / w) * w + i % w ≡ i = div-add-mod' i w in
      let b : (j / w) * w + j % w ≡ j = div-add-mod' j w in omega arith)
  | inr apart ↦ elim apart [
    | inl l ↦ absurd (let h = place_higher n w i j lt some l in omega arith)
    | inr g ↦ absurd (let h = place_higher n w j i less some g in omega arith)
  ]
]

-- the step of a staircase on which a number is
step_below : (f : ℕ → ℕ) (m n : ℕ) → f 0 ≤ m → m < f n → (k : ℕ) × (k < n) × (f k ≤ m) × (m < f (k + 1))
step_below f m zero first last = absurd (omega arith)
step_below f m (suc n) first last = elim (cases_lt m (f n)) [
  | inl l ↦ (let p = step_below f m n first l in let d = p.1 in (p.0, omega arith, p.2, p.3))
  | inr ge ↦ (n, omega arith, ge, subst (λ (x : ℕ). m < f x) (omega arith) last)
]

-- each place is that of a piece
piece_at : (n w m : ℕ) → m < n → 0 < w → (i : ℕ) × (i < n) × (place_of n w i ≡ m)
piece_at n w m lt some =
    let s = step_below (run_start n w) m w (omega arith) (let e = run_last n w some in omega arith) in
    let k : ℕ = s.0 in
    let below : k < w = s.1 in
    let from : run_start n w k ≤ m = s.2 in
    let before : m < run_start n w (k + 1) = s.3 in
    let a : ℕ = m - run_start n w k in
    let i : ℕ = a * w + k in
    let q : ℕ = n / w in
    let all : q * w + n % w ≡ n = div-add-mod' n w in
    let next : (k + 1) * q ≡ k * q + q = one_more k q in
    let div : i / w ≡ a = div-mul-add a w k below in
    let rem : i % w ≡ k = mod-mul-add a w k below in
    let there : (i % w) * q ≡ k * q = ap (λ (x : ℕ). x * q) rem in
    let inside : i < n = elim (cases_lt a q) [
      | inl l ↦ (let o : (a + 1) * w ≤ q * w = mul-le-mul_right w (let h : a + 1 ≤ q = omega arith in h) in let e = one_more a w in omega arith)
      | inr ge ↦ (let e : a ≡ q = omega arith in let f : a * w ≡ q * w = ap (λ (x : ℕ). x * w) e in omega arith)
    ] in
    (i, inside, omega arith)

-- the rows of the pieces below n
abbrev pub OfPieces : List ℕ → List ℕ → ℕ → ℕ → Type 0
OfPieces out todo w n = (row : ℕ) → (Contains out row ↔ ((i : ℕ) × (i < n) × (slice_get todo (place_of (length todo) w i) ≡ Some row)))

pub pieces_none : (todo : List ℕ) (w : ℕ) → OfPieces [] todo w 0
pieces_none todo w row = (λ h. absurd (let l = h.1 in omega arith), λ h. absurd (let l = h.1 in omega arith))

pub pieces_next : (mid todo : List ℕ) (w n x : ℕ) → slice_get todo (place_of (length todo) w n) ≡ Some x → OfPieces mid todo w n → OfPieces (mid ++ x ∷ []) todo w (n + 1)
pieces_next mid todo w n x here so row = (
  λ h. elim (Contains-push_cases mid x row h) [
    | inl m ↦ (let p = (so row).0 m in let l = p.1 in (p.0, omega arith, p.2))
    | inr e ↦ (n, omega arith, here ∙ ap Some e)
  ],
  λ h. elim (cases_eq h.0 n) [
    | inl e ↦ subst (Contains (mid ++ x ∷ [])) (same_Some x row (sym here ∙ ap (λ (k : ℕ). slice_get todo (place_of (length todo) w k)) (sym e) ∙ h.2)) (Contains-push mid x)
    | inr ne ↦ (let l = h.1 in Contains-append_left mid (x ∷ []) row ((so row).1 (h.0, omega arith, h.2)))
  ],
)

pub pieces_all : (out todo : List ℕ) (w : ℕ) → 0 < w → OfPieces out todo w (length todo) → (row : ℕ) → (Contains out row ↔ Contains todo row)
pieces_all out todo w some so row = (
  λ h. (let p = (so row).0 h in Contains-at todo (place_of (length todo) w p.0) row p.2),
  λ h. (let m = at_Contains todo row h in
      let p = piece_at (length todo) w m.0 m.1 some in
      (so row).1 (p.0, p.1, ap (slice_get todo) p.2 ∙ m.2)),
)

pub pieces_once : (mid todo : List ℕ) (w n x : ℕ) → 0 < w → n < length todo → slice_get todo (place_of (length todo) w n) ≡ Some x → OfPieces mid todo w n → AreRowsApart todo → AreRowsApart mid → AreRowsApart (mid ++ x ∷ [])
pieces_once mid todo w n x some lt here so once so_far = distinct_push mid x so_far (λ c.
    let p = (so x).0 c in
    let l = p.1 in
    let same = place_apart (length todo) w p.0 n (let h : p.0 < length todo = omega arith in h) lt some (one_place todo once (place_of (length todo) w p.0) (place_of (length todo) w n) x p.2 here) in
    absurd (omega arith))
