-- The least solution of the reduced system, read through the new numbers, is the least solution of the system.
use Rattle.std.proofs.Common.{◌≡◌, ◌⊎◌, ℕ, zero, suc, ◌+◌, ◌<◌, ◌≤◌, ◌&&◌, Bool, true, false, cond, eqb, List, length, IsTrue, refl, sym, ◌∙◌, ap, subst, inl, inr, arith}
use Rattle.std.proofs.lemmas.Bool.{cases_Bool, cases_eq, cases_lt, true≢false, eq-eqb}
use Rattle.std.proofs.lemmas.List.{get_or_past}
use Rattle.sol_model.specs.declared.system.System.{System}
use Rattle.sol_model.specs.declared.system.Constraint.TheVariants.{Copy}
use Rattle.sol_model.specs.Families.{Family, Has, IsInside}
use Rattle.sol_model.specs.Solutions.{IsLeast, IsClosed}
use Rattle.sol_model.specs.Systems.{IsValid, IsRow, IsLocation, location_count}
use Rattle.sol_model.specs.Words.{full}
use Rattle.sol_model.proofs.Monotone.{same_least}
use Rattle.sol_model.proofs.Closed.{least_in_range, least_is_in_range, full_has, has_full}
use Rattle.row_share.specs.share_laws.Classes.{AreClasses, AreTogether, Follows}
use Rattle.row_share.specs.share_laws.Laws.{HaveEqualSets}
use Rattle.row_share.specs.share_laws.Renumbering.{new_row, IsReduced}
use Rattle.row_share.proofs.share_laws.Forward.{over}
use Rattle.row_share.proofs.share_laws.EqualSets.{same_tests, reached_has, its_copy, cut, cut_inside, cut_closed}
use Rattle.row_share.proofs.share_laws.Numbers.{own_small}
use Rattle.row_share.proofs.share_laws.Valid.{reduced_valid}
use Rattle.row_share.proofs.share_laws.Agreeing.{over_inside, over_closed}

-- ---- how many facts a family has in a system
abbrev bit : Bool → ℕ
bit t = cond t 1 0

abbrev sum_below : ℕ → (ℕ → ℕ) → ℕ
sum_below zero f = 0
sum_below (suc n) f = f n + sum_below n f

sum_le : (n : ℕ) (f g : ℕ → ℕ) → ((k : ℕ) → f k ≤ g k) → sum_below n f ≤ sum_below n g
sum_le zero f g h = omega arith
sum_le (suc n) f g h = add_le (f n) (g n) (sum_below n f) (sum_below n g) (h n) (sum_le n f g h)
  where
    add_le : (a b c d : ℕ) → a ≤ b → c ≤ d → a + c ≤ b + d
    add_le a b c d p q = omega arith

sum_lt : (n : ℕ) (f g : ℕ → ℕ) (k : ℕ) → k < n → f k < g k → ((i : ℕ) → f i ≤ g i) → sum_below n f < sum_below n g
sum_lt zero f g k lt less h = absurd (omega arith)
sum_lt (suc n) f g k lt less h = elim (cases_eq k n) [
  | inl same ↦ first (f n) (g n) (sum_below n f) (sum_below n g) (subst (λ (i : ℕ). f i < g i) same less) (sum_le n f g h)
  | inr apart ↦ second (f n) (g n) (sum_below n f) (sum_below n g) (h n) (sum_lt n f g k (omega arith) less h)
]
  where
    first : (a b c d : ℕ) → a < b → c ≤ d → a + c < b + d
    first a b c d p q = omega arith

    second : (a b c d : ℕ) → a ≤ b → c < d → a + c < b + d
    second a b c d p q = omega arith

bit_le : (a b : Bool) → (IsTrue a → IsTrue b) → bit a ≤ bit b
bit_le true true h = omega arith
bit_le true false h = absurd (true≢false (sym (h refl)))
bit_le false true h = omega arith
bit_le false false h = omega arith

bit_lt : (a b : Bool) → a ≡ false → b ≡ true → bit a < bit b
bit_lt true b p q = absurd (true≢false p)
bit_lt false true p q = omega arith
bit_lt false false p q = absurd (true≢false (sym q))

abbrev facts : System → Family → ℕ
facts S K = sum_below S.rows (λ r. sum_below (location_count S) (λ l. bit (K r l)))

fewer : (S : System) (small large : Family) (r l : ℕ) → IsInside small large → IsRow S r → IsLocation S l → small r l ≡ false → large r l ≡ true → facts S small < facts S large
fewer S small large r l inside known_r known_l lacks has =
    sum_lt S.rows (λ q. sum_below (location_count S) (λ m. bit (small q m))) (λ q. sum_below (location_count S) (λ m. bit (large q m))) r known_r
    (sum_lt (location_count S) (λ m. bit (small r m)) (λ m. bit (large r m)) l known_l (bit_lt (small r l) (large r l) lacks has) (λ m. bit_le (small r m) (large r m) (inside r m)))
    (λ q. sum_le (location_count S) (λ m. bit (small q m)) (λ m. bit (large q m)) (λ m. bit_le (small q m) (large q m) (inside q m)))

-- a row that has what the row that it follows lacks
record IsUneven (S : System) (K : Family) : Type 0 where
  row : ℕ
  from : ℕ
  location : ℕ
  follows : Follows S row from
  has : K row location ≡ true
  lacks : K from location ≡ false

or_not : (P : Type 0) → ((P ⊎ (P → ⊥)) → ⊥) → ⊥
or_not P h = h (inr (λ p. h (inl p)))

-- a closed family without such a row has equal sets for rows of a class
even_same : (S : System) (K : Family) → IsClosed S K → (IsUneven S K → ⊥) → (a b : ℕ) → AreTogether S a b → HaveEqualSets K a b
even_same S K closed even a b together location = together (λ r. K r location) (record {
  followed = λ row from follows. same_tests (K row location) (K from location)
      (λ has. elim (cases_Bool (K from location)) [
        | inl there ↦ there
        | inr lacks ↦ absurd (even (record { row = row; from = from; location = location; follows = follows; has = has; lacks = lacks }))
      ])
      ((closed (Copy from row) (its_copy S row from follows)).edges from row (refl, refl) location);
  cycles = λ x y there back. same_tests (K x location) (K y location) (reached_has S K closed x y location there) (reached_has S K closed y x location back);
})

cut_lacks : (K : Family) (row from location : ℕ) → K from location ≡ false → cut K row from row location ≡ false
cut_lacks K row from location lacks = one (eqb row row) (K row location) (K from location) (eq-eqb row row refl) lacks
  where
    one : (t x y : Bool) → t ≡ true → y ≡ false → cond t (x && y) x ≡ false
    one true true y p q = q
    one true false y p q = refl
    one false x y p q = absurd (true≢false (sym p))

not_in : (small large : Bool) → (IsTrue small → IsTrue large) → large ≡ false → small ≡ false
not_in true large h e = absurd (true≢false (sym (h refl) ∙ e))
not_in false large h e = refl

module _ (S T : System) (of row : List ℕ) (valid : IsValid S) (classes : AreClasses S of) (reduced : IsReduced S of row T) (G : Family) (least_T : IsLeast T G) where
  none_lacks : (bound : ℕ) (K : Family) → facts S K < bound → IsClosed S K → IsInside K (full S) → (old location : ℕ) → Has G (new_row row old) location → K old location ≡ false → ⊥
  none_lacks zero K small closed range old location has lacks = omega arith
  none_lacks (suc bound) K small closed range old location has lacks = or_not (IsUneven S K) (λ either. elim either [
    | inl uneven ↦ (let row' = uneven.row in let from' = uneven.from in
        let inside = cut_inside K row' from' in
        let known = full_has S row' uneven.location (range row' uneven.location uneven.has) in
        let fewer_facts = fewer S (cut K row' from') K row' uneven.location inside known.0 known.1 (cut_lacks K row' from' uneven.location uneven.lacks) uneven.has in
        none_lacks bound (cut K row' from') (omega arith) (cut_closed S K valid closed range row' from' uneven.follows) (λ r l h. range r l (inside r l h)) old location has
        (not_in (cut K row' from' old location) (K old location) (inside old location) lacks))
    | inr even ↦ true≢false (sym (over_inside S T of row valid classes reduced K G closed range (even_same S K closed even) least_T old location has) ∙ lacks)
  ])

  in_closed : (K : Family) → IsClosed S K → IsInside K (full S) → IsInside (over G (new_row row)) K
  in_closed K closed range old location has = elim (cases_Bool (K old location)) [
    | inl there ↦ there
    | inr lacks ↦ absurd (none_lacks (suc (facts S K)) K (omega arith) closed range old location has lacks)
  ]

  over_range : IsInside (over G (new_row row)) (full S)
  over_range old location has =
      let k = full_has T (new_row row old) location (least_is_in_range T G (reduced_valid S T of row valid classes reduced) least_T (new_row row old) location has) in
      has_full S old location (
        elim (cases_lt old S.rows) [
          | inl here ↦ here
          | inr past ↦ absurd (let e : new_row row old ≡ old = get_or_past row old old (let c = reduced.numbers.count in omega arith) in
              let r = reduced.rows in let s = own_small (location_count S) of S.rows in let v = valid.rows in let q = k.0 in omega arith)
        ],
        subst (λ (n : ℕ). location < n) (ap length reduced.locations) k.1,
      )

  pub gives_least : IsLeast S (over G (new_row row))
  gives_least = least_in_range S (over G (new_row row)) valid (over_closed S T of row valid classes reduced G least_T) over_range in_closed

  pub agree_at : (F : Family) → IsLeast S F → (old location : ℕ) → IsRow S old → F old location ≡ G (new_row row old) location
  agree_at F least old location known = same_least S F (over G (new_row row)) least gives_least old location
