-- Rows that gain the facts of a relation, step by step.
use Rattle.std.proofs.Common.{◌≡◌, ◌↔◌, ℕ, suc, ◌+◌, ◌*◌, ◌<◌, ◌≤◌, ◌⊎◌, Bool, true, false, List, length, Option, Some, slice_get, Contains, refl, sym, ◌∙◌, ap, subst, inl, inr, arith, mul-le-mul_right, suc-mul}
use Rattle.std.proofs.lemmas.Bool.{cases_Bool, cases_lt, false≢true}
use Rattle.std.proofs.lemmas.Option.{same_Some}
use Rattle.sol_model.specs.declared.system.System.{System}
use Rattle.sol_model.specs.declared.rows.Rows.{Rows}
use Rattle.sol_model.specs.Families.{Has, HoldsRow, Adds, members}
use Rattle.sol_model.specs.Systems.{IsLocation, width_of}
use Rattle.sol_model.proofs.Members.{at_Contains, Contains-at}
use Rattle.sol_model.proofs.Words.{locations_fit}
use Rattle.mod_ref.specs.Gains.{Gains, HasRowsFor, In}

pub gains_same : (rows : Rows) (Fact : ℕ → ℕ → Type 0) → ((r l : ℕ) → Fact r l → ⊥) → Gains rows rows Fact
gains_same rows Fact none = record {
  width = refl;
  words = refl;
  kept = λ r l h. h;
  added = λ r l h. absurd (none r l h);
  nothing_else = λ r l h. inl h;
}

-- the facts of one relation, and then those of another
pub gains_then : (old now new : Rows) (One Other Both : ℕ → ℕ → Type 0) → Gains old now One → Gains now new Other
    → ((r l : ℕ) → One r l → Both r l) → ((r l : ℕ) → Other r l → Both r l) → ((r l : ℕ) → Both r l → One r l ⊎ Other r l) → Gains old new Both
gains_then old now new One Other Both one other from_one from_other parts = record {
  width = other.width ∙ one.width;
  words = other.words ∙ one.words;
  kept = λ r l h. other.kept r l (one.kept r l h);
  added = λ r l h. elim (parts r l h) [ inl p ↦ other.kept r l (one.added r l p) | inr p ↦ other.added r l p ];
  nothing_else = λ r l h. elim (other.nothing_else r l h) [
    | inl now_there ↦ elim (one.nothing_else r l now_there) [ inl before ↦ inl before | inr p ↦ inr (from_one r l p) ]
    | inr p ↦ inr (from_other r l p)
  ];
}

pub gains_as : (old new : Rows) (One Other : ℕ → ℕ → Type 0) → Gains old new One → ((r l : ℕ) → One r l → Other r l) → ((r l : ℕ) → Other r l → One r l) → Gains old new Other
gains_as old new One Other one to from = record {
  width = one.width;
  words = one.words;
  kept = one.kept;
  added = λ r l h. one.added r l (from r l h);
  nothing_else = λ r l h. elim (one.nothing_else r l h) [ inl before ↦ inl before | inr p ↦ inr (to r l p) ];
}

-- the facts of the numbers below i, and then those of i
pub gains_next : (old now new : Rows) (i : ℕ) (Fact : ℕ → ℕ → ℕ → Type 0)
    → Gains old now (λ r l. (k : ℕ) × (k < i) × Fact k r l) → Gains now new (Fact i) → Gains old new (λ r l. (k : ℕ) × (k < i + 1) × Fact k r l)
gains_next old now new i Fact before here =
    gains_then old now new (λ r l. (k : ℕ) × (k < i) × Fact k r l) (Fact i) (λ r l. (k : ℕ) × (k < i + 1) × Fact k r l) before here
    (λ r l h. (h.0, omega (arith, h.1), h.2))
    (λ r l h. (i, omega arith, h))
    (λ r l h. elim (cases_lt h.0 i) [
      | inl lt ↦ inl (h.0, lt, h.2)
      | inr ge ↦ inr (let below = h.1 in let e : h.0 ≡ i = omega arith in subst (λ k. Fact k r l) e h.2)
    ])

pub gains_none : (rows : Rows) (Fact : ℕ → ℕ → ℕ → Type 0) → Gains rows rows (λ r l. (k : ℕ) × (k < 0) × Fact k r l)
gains_none rows Fact = gains_same rows (λ r l. (k : ℕ) × (k < 0) × Fact k r l) (λ r l h. absurd (omega (arith, h.1)))

-- the facts of one item of a list after another are those of its items
pub gains_listed : {X : Type 0} (xs : List X) (Fact : X → ℕ → ℕ → Type 0) (count : ℕ) (old new : Rows) → length xs ≤ count
    → Gains old new (λ r l. (k : ℕ) × (k < count) × ((x : X) × (slice_get xs k ≡ Some x) × Fact x r l)) → Gains old new (λ r l. (x : X) × Contains xs x × Fact x r l)
gains_listed {X} xs Fact count old new all gains =
    gains_as old new (λ r l. (k : ℕ) × (k < count) × ((x : X) × (slice_get xs k ≡ Some x) × Fact x r l)) (λ r l. (x : X) × Contains xs x × Fact x r l) gains
    (λ r l h. (h.2.0, Contains-at xs h.0 h.2.0 h.2.1, h.2.2))
    (λ r l h. let w = at_Contains xs h.0 h.1 in (w.0, (let lt = w.1 in omega arith), (h.0, w.2, h.2)))

-- the same of locations that are added to one row
pub gains_in_next : {X : Type 0} (xs : List X) (row : ℕ) (Set : X → ℕ → Type 0) (i : ℕ) (x : X) (old now new : Rows) → slice_get xs i ≡ Some x
    → Gains old now (λ r l. (k : ℕ) × (k < i) × ((y : X) × (slice_get xs k ≡ Some y) × ((r ≡ row) × Set y l)))
    → Gains now new (In row (Set x))
    → Gains old new (λ r l. (k : ℕ) × (k < i + 1) × ((y : X) × (slice_get xs k ≡ Some y) × ((r ≡ row) × Set y l)))
gains_in_next {X} xs row Set i x old now new at before here =
    gains_next old now new i (λ k r l. (y : X) × (slice_get xs k ≡ Some y) × ((r ≡ row) × Set y l)) before
    (gains_as now new (In row (Set x)) (λ r l. (y : X) × (slice_get xs i ≡ Some y) × ((r ≡ row) × Set y l)) here
    (λ r l h. (x, at, h))
    (λ r l h. (h.2.0, subst (λ (y : X). Set y l) (same_Some _ _ (sym h.1 ∙ at)) h.2.1)))

pub gains_in_listed : {X : Type 0} (xs : List X) (row : ℕ) (Set : X → ℕ → Type 0) (count : ℕ) (old new : Rows) → length xs ≤ count
    → Gains old new (λ r l. (k : ℕ) × (k < count) × ((y : X) × (slice_get xs k ≡ Some y) × ((r ≡ row) × Set y l)))
    → Gains old new (In row (λ l. (x : X) × Contains xs x × Set x l))
gains_in_listed {X} xs row Set count old new all gains =
    gains_as old new (λ r l. (x : X) × Contains xs x × ((r ≡ row) × Set x l)) (In row (λ l. (x : X) × Contains xs x × Set x l))
    (gains_listed xs (λ x r l. (r ≡ row) × Set x l) count old new all gains)
    (λ r l h. (h.2.0, (h.0, h.1, h.2.1)))
    (λ r l h. let i = h.1 in (i.0, i.1, (h.0, i.2)))

-- the locations of one set, of a second and of a third, added to one row
pub gains_three : (old one two new : Rows) (row : ℕ) (A B C : ℕ → Type 0) → Gains old one (In row A) → Gains one two (In row B) → Gains two new (In row C) → Gains old new (In row (λ l. A l ⊎ (B l ⊎ C l)))
gains_three old one two new row A B C first second third =
    gains_then old one new (In row A) (In row (λ l. B l ⊎ C l)) (In row (λ l. A l ⊎ (B l ⊎ C l))) first
    (gains_then one two new (In row B) (In row C) (In row (λ l. B l ⊎ C l)) second third
    (λ r l h. (h.0, inl h.1))
    (λ r l h. (h.0, inr h.1))
    (λ r l h. elim h.1 [ inl b ↦ inl (h.0, b) | inr c ↦ inr (h.0, c) ]))
    (λ r l h. (h.0, inl h.1))
    (λ r l h. (h.0, inr h.1))
    (λ r l h. elim h.1 [ inl a ↦ inl (h.0, a) | inr more ↦ inr (h.0, more) ])

-- ---- rows of functions
pub rows_kept : (S : System) (old new : Rows) (Fact : ℕ → ℕ → Type 0) → HasRowsFor S old → Gains old new Fact → HasRowsFor S new
rows_kept S old new Fact rows gains = record { width = gains.width ∙ rows.width; words = gains.words ∙ rows.words }

pub row_held : (S : System) (rows : Rows) (row : ℕ) → HasRowsFor S rows → row < length S.functions → HoldsRow rows row
row_held S rows row has lt =
    let more : suc row * width_of S ≤ length S.functions * width_of S = mul-le-mul_right (width_of S) lt in
    let words = has.words in
    let line : row * width_of S + width_of S ≤ length rows.words = omega (arith, suc-mul row (width_of S)) in
    subst (λ w. row * w + w ≤ length rows.words) (sym has.width) line

pub location_held : (S : System) (rows : Rows) (location : ℕ) → HasRowsFor S rows → IsLocation S location → location < 64 * rows.width
location_held S rows location has known = subst (λ w. location < 64 * w) (sym has.width) (locations_fit S location known)

-- one fact was added
pub gains_one : (old new : Rows) (row location : ℕ) → Adds (members old) (members new) row location → new.width ≡ old.width → length new.words ≡ length old.words → Gains old new (In row (λ l. l ≡ location))
gains_one old new row location adds width words = record {
  width = width;
  words = words;
  kept = adds.kept;
  added = λ r l h. subst (λ a. Has (members new) a l) (sym h.0) (subst (λ b. Has (members new) row b) (sym h.1) adds.added);
  nothing_else = adds.nothing_else;
}

-- it was there
pub gains_there : (rows : Rows) (row location : ℕ) → Has (members rows) row location → Gains rows rows (In row (λ l. l ≡ location))
gains_there rows row location there = record {
  width = refl;
  words = refl;
  kept = λ r l h. h;
  added = λ r l h. subst (λ a. Has (members rows) a l) (sym h.0) (subst (λ b. Has (members rows) row b) (sym h.1) there);
  nothing_else = λ r l h. inl h;
}

-- ---- whether something was found so far
pub found_none : (Fact : ℕ → Type 0) → (false ≡ true) ↔ ((k : ℕ) × (k < 0) × Fact k)
found_none Fact = (λ e. absurd (false≢true e), λ h. absurd (let lt = h.1 in omega arith))

pub found_next : (held : List ℕ) (Fact : ℕ → Type 0) (i x : ℕ) (found one both : Bool) → slice_get held i ≡ Some x
    → (found ≡ true) ↔ ((k : ℕ) × (k < i) × ((at : ℕ) × (slice_get held k ≡ Some at) × Fact at))
    → (one ≡ true) ↔ Fact x
    → (both ≡ true → (found ≡ true) ⊎ (one ≡ true)) → (both ≡ false → (found ≡ false) × (one ≡ false))
    → (both ≡ true) ↔ ((k : ℕ) × (k < i + 1) × ((at : ℕ) × (slice_get held k ≡ Some at) × Fact at))
found_next held Fact i x found one both at before here on off = (
  λ e. elim (on e) [
    | inl was ↦ (let h = before.0 was in (h.0, omega (arith, h.1), h.2))
    | inr now ↦ (i, omega arith, (x, at, here.0 now))
  ],
  λ h. elim (cases_Bool both) [
    | inl t ↦ t
    | inr f ↦
        (let none = off f in
        elim (cases_lt h.0 i) [
          | inl lt ↦ absurd (false≢true (sym none.0 ∙ before.1 (h.0, lt, h.2)))
          | inr ge ↦
              (let below = h.1 in
              let same : h.0 ≡ i = omega arith in
              let item = h.2 in
              let value : item.0 ≡ x = same_Some _ _ (sym item.1 ∙ (ap (slice_get held) same ∙ at)) in
              absurd (false≢true (sym none.1 ∙ here.1 (subst Fact value item.2))))
        ])
  ],
)

pub found_listed : (held : List ℕ) (Fact : ℕ → Type 0) (n : ℕ) (found : Bool) → length held ≤ n → (found ≡ true) ↔ ((k : ℕ) × (k < n) × ((at : ℕ) × (slice_get held k ≡ Some at) × Fact at)) → (found ≡ true) ↔ ((at : ℕ) × Contains held at × Fact at)
found_listed held Fact n found all same = (
  λ e. let h = same.0 e in let item = h.2 in (item.0, Contains-at held h.0 item.0 item.1, item.2),
  λ h. same.1 (let w = at_Contains held h.0 h.1 in (w.0, (let lt = w.1 in omega arith), (h.0, w.2, h.2))),
)
