-- New numbers of rows: two rows that have one new number have the same representative, or are one location's row.
use Rattle.std.proofs.Common.{◌≡◌, ◌⊎◌, ℕ, zero, suc, ◌+◌, ◌-◌, ◌<◌, ◌≤◌, ◌&&◌, Bool, true, false, cond, eqb, leb, List, get_or, refl, sym, ◌∙◌, ap, subst, inl, inr, arith}
use Rattle.std.proofs.lemmas.Bool.{leb-true, le-leb, eq-eqb, and_from, cases_lt, cases_order, cases_eq, true≢false}
use Rattle.sol_model.specs.declared.system.System.{System}
use Rattle.sol_model.specs.Families.{Family}
use Rattle.sol_model.specs.Systems.{IsRow, IsLocation, location_count}
use Rattle.row_share.specs.share_laws.Classes.{AreTogether, AreClasses}
use Rattle.row_share.specs.share_laws.Laws.{HaveEqualSets}
use Rattle.row_share.specs.share_laws.Renumbering.{new_row, is_own, own_below, AreNumbers}

small_step : (t u : Bool) (locations k m : ℕ) → (t ≡ true → locations ≤ k) → m ≤ k - locations → m + cond (t && u) 1 0 ≤ suc k - locations
small_step true true locations k m h le = let high = h refl in omega arith
small_step true false locations k m h le = omega arith
small_step false u locations k m h le = omega arith

pub own_small : (locations : ℕ) (of : List ℕ) (k : ℕ) → own_below locations of k ≤ k - locations
own_small locations of zero = omega arith
own_small locations of (suc k) = small_step (leb locations k) (eqb (get_or of k 0) k) locations k (own_below locations of k) (leb-true locations k) (own_small locations of k)

own_here : (t : Bool) (m n : ℕ) → t ≡ true → m ≡ n → m < n + cond t 1 0
own_here true m n h e = omega arith
own_here false m n h e = absurd (true≢false (sym h))

own_later : (t : Bool) (m n : ℕ) → m < n → m < n + cond t 1 0
own_later true m n lt = omega arith
own_later false m n lt = omega arith

pub own_more : (locations : ℕ) (of : List ℕ) (k j : ℕ) → k < j → is_own locations of k ≡ true → own_below locations of k < own_below locations of j
own_more locations of k zero lt own = absurd (omega arith)
own_more locations of k (suc j) lt own = elim (cases_eq k j) [
  | inl same ↦ own_here (is_own locations of j) (own_below locations of k) (own_below locations of j) (subst (λ (i : ℕ). is_own locations of i ≡ true) same own) (ap (own_below locations of) same)
  | inr other ↦ own_later (is_own locations of j) (own_below locations of k) (own_below locations of j) (own_more locations of k j (omega arith) own)
]

pub is_own_at : (locations : ℕ) (of : List ℕ) (k : ℕ) → locations ≤ k → get_or of k 0 ≡ k → is_own locations of k ≡ true
is_own_at locations of k le e = and_from (leb locations k) (eqb (get_or of k 0) k) (le-leb locations k le) (eq-eqb (get_or of k 0) k e)

pub together_refl : (S : System) (a : ℕ) → AreTogether S a a
together_refl S a set undivided = refl

pub together_sym : (S : System) (a b : ℕ) → AreTogether S a b → AreTogether S b a
together_sym S a b h set undivided = sym (h set undivided)

pub together_trans : (S : System) (a b c : ℕ) → AreTogether S a b → AreTogether S b c → AreTogether S a c
together_trans S a b c h k set undivided = h set undivided ∙ k set undivided

-- and no larger than its row
pub representative_small : (S : System) (of : List ℕ) → AreClasses S of → (row : ℕ) → IsRow S row → get_or of row 0 ≤ row
representative_small S of classes row h = (classes.classes row h).smallest row h (together_refl S row)

-- a representative is its own
pub representative_own : (S : System) (of : List ℕ) → AreClasses S of → (row : ℕ) → IsRow S row → get_or of (get_or of row 0) 0 ≡ get_or of row 0
representative_own S of classes row h =
    let one = classes.classes row h in
    let two = classes.classes (get_or of row 0) one.known in
    let up : get_or of row 0 ≤ get_or of (get_or of row 0) 0 = one.smallest (get_or of (get_or of row 0) 0) two.known (together_trans S row (get_or of row 0) (get_or of (get_or of row 0) 0) one.together two.together) in
    let down : get_or of (get_or of row 0) 0 ≤ get_or of row 0 = two.smallest (get_or of row 0) one.known (together_refl S (get_or of row 0)) in
    omega arith

-- a location's row or a representative, with the set and the new number of a row
record HasKey (S : System) (F : Family) (of row : List ℕ) (old key : ℕ) : Type 0 where
  known : IsRow S key
  same : HaveEqualSets F old key
  number : new_row row old ≡ new_row row key
  kind : IsLocation S key ⊎ ((location_count S ≤ key) × (get_or of key 0 ≡ key))

module _ (S : System) (F : Family) (of row : List ℕ) (equal : (a b : ℕ) → AreTogether S a b → HaveEqualSets F a b) (classes : AreClasses S of) (numbers : AreNumbers S of row) where
  key_of : (old : ℕ) → IsRow S old → (key : ℕ) × HasKey S F of row old key
  key_of old h = elim (cases_lt old (location_count S)) [
    | inl here ↦ (old, record { known = h; same = λ l. refl; number = refl; kind = inl here })
    | inr above ↦ (let one = classes.classes old h in (
      get_or of old 0,
      record {
        known = one.known;
        same = equal old (get_or of old 0) one.together;
        number = numbers.others old h above;
        kind = elim (cases_lt (get_or of old 0) (location_count S)) [
          | inl low ↦ inl low
          | inr high ↦ inr (high, representative_own S of classes old h)
        ];
      },
    ))
  ]

  own_number : (key : ℕ) → IsRow S key → location_count S ≤ key → get_or of key 0 ≡ key → new_row row key ≡ location_count S + own_below (location_count S) of key
  own_number key h above own = numbers.own key h above own

  -- keys with one number are one
  one_key : (a b : ℕ) → IsRow S a → IsRow S b → IsLocation S a ⊎ ((location_count S ≤ a) × (get_or of a 0 ≡ a)) → IsLocation S b ⊎ ((location_count S ≤ b) × (get_or of b 0 ≡ b))
      → new_row row a ≡ new_row row b → a ≡ b
  one_key a b ha hb ka kb e = elim ka [
    | inl la ↦ elim kb [
      | inl lb ↦ sym (numbers.locations a la) ∙ e ∙ numbers.locations b lb
      | inr ob ↦ (let x = numbers.locations a la in let y = own_number b hb ob.0 ob.1 in absurd (omega arith))
    ]
    | inr oa ↦ elim kb [
      | inl lb ↦ (let x = numbers.locations b lb in let y = own_number a ha oa.0 oa.1 in absurd (omega arith))
      | inr ob ↦ (let x = own_number a ha oa.0 oa.1 in let y = own_number b hb ob.0 ob.1 in
          elim (cases_order a b) [
            | inl same ↦ same
            | inr apart ↦ elim apart [
              | inl lt ↦ (let m = own_more (location_count S) of a b lt (is_own_at (location_count S) of a oa.0 oa.1) in absurd (omega arith))
              | inr gt ↦ (let m = own_more (location_count S) of b a gt (is_own_at (location_count S) of b ob.0 ob.1) in absurd (omega arith))
            ]
          ])
    ]
  ]

  -- rows with one new number have equal sets
  pub same_number : (a b : ℕ) → IsRow S a → IsRow S b → new_row row a ≡ new_row row b → HaveEqualSets F a b
  same_number a b ha hb e location =
      let ka = key_of a ha in
      let kb = key_of b hb in
      let same = one_key ka.0 kb.0 ka.1.known kb.1.known ka.1.kind kb.1.kind (sym ka.1.number ∙ e ∙ kb.1.number) in
      ka.1.same location ∙ ap (λ (r : ℕ). F r location) same ∙ sym (kb.1.same location)

  -- new numbers are no larger
  pub number_small : (old : ℕ) → IsRow S old → new_row row old ≤ S.rows - 1
  number_small old h =
      let k = key_of old h in
      let e = k.1.number in
      let in_rows = k.1.known in
      elim k.1.kind [
        | inl low ↦ (let x = numbers.locations k.0 low in omega arith)
        | inr own ↦ (let x = own_number k.0 in_rows own.0 own.1 in let s = own_small (location_count S) of k.0 in let a = own.0 in omega arith)
      ]
