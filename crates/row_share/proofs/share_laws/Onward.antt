-- Where copies lead on alone, classes are the rows that follow one another, and the first of them is the smallest.
use Rattle.std.proofs.Common.{◌≡◌, ℕ, ◌+◌, ◌<◌, ◌≤◌, ◌||◌, eqb, leb, ltb, List, [], ◌∷◌, ◌++◌, length, get_or, refl, sym, ◌∙◌, ap, subst, inl, inr, arith}
use Rattle.std.proofs.lemmas.Bool.{eq-eqb, eqb-true, ltb-true, leb-true, lt-ltb, le-leb, or_cases, or_left, or_right, cases_eq, cases_lt}
use Rattle.std.proofs.lemmas.List.{get_or_append_left, get_or_push, length-append}
use Rattle.std.proofs.lemmas.List.Elements.{All-contains}
use Rattle.sol_model.specs.declared.system.System.{System}
use Rattle.sol_model.specs.declared.system.Constraint.TheVariants.{Copy}
use Rattle.sol_model.specs.Systems.{IsValid, location_count}
use Rattle.row_share.specs.share_laws.Classes.{Follows, IsCopy, Reaches, IsUndivided, AreTogether, AreClasses}
use Rattle.row_share.specs.share_laws.Onward.{LeadsOn, CopiesLeadOn, IsFirstOf}
use Rattle.row_share.proofs.share_laws.EqualSets.{its_copy}
use Rattle.row_share.proofs.share_laws.Marking.{copy_rows}
use Rattle.row_share.proofs.share_laws.Numbers.{together_refl, together_trans}

module _ (S : System) (on : CopiesLeadOn S) where
  lead : (from to : ℕ) → IsCopy S from to → LeadsOn (location_count S) (Copy from to)
  lead from to copy = All-contains (LeadsOn (location_count S)) S.constraints (Copy from to) on copy

  -- ---- no cycles
  -- copies lead nowhere from a location's row
  stays : (a b : ℕ) → a < location_count S → Reaches S a b → b ≡ a
  stays a b low path = eqb-true b a (path (λ x. eqb x a)
      (λ from to copy at. absurd (let high = (lead from to copy).0 in let is : from ≡ a = eqb-true from a at in omega arith))
      (eq-eqb a a refl))

  -- and elsewhere to no earlier row but those of locations
  later : (a b : ℕ) → location_count S ≤ b → Reaches S a b → a ≤ b
  later a b high path = elim (or_cases (ltb b (location_count S)) (leb a b) (path (λ x. ltb x (location_count S) || leb a x)
      (λ from to copy at. (let on = lead from to copy in elim on.1 [
        | inl low ↦ or_left (ltb to (location_count S)) (leb a to) (lt-ltb to (location_count S) low)
        | inr next ↦ or_right (ltb to (location_count S)) (leb a to) (le-leb a to (elim (or_cases (ltb from (location_count S)) (leb a from) at) [
          | inl low ↦ absurd (let high' = on.0 in let lt = ltb-true from (location_count S) low in omega arith)
          | inr le ↦ (let m = leb-true a from le in omega arith)
        ]))
      ]))
      (or_right (ltb a (location_count S)) (leb a a) (le-leb a a (omega arith))))) [
        | inl low ↦ absurd (let lt = ltb-true b (location_count S) low in omega arith)
        | inr le ↦ leb-true a b le
      ]

  -- rows that reach each other are one
  pub no_cycle : (a b : ℕ) → Reaches S a b → Reaches S b a → a ≡ b
  no_cycle a b there back = elim (cases_lt a (location_count S)) [
    | inl low ↦ sym (stays a b low there)
    | inr high ↦ elim (cases_lt b (location_count S)) [
      | inl low ↦ stays b a low back
      | inr high' ↦ (let up = later a b high' there in let down = later b a high back in omega arith)
    ]
  ]

  -- ---- rows that follow
  pub follows_earlier : (row from : ℕ) → Follows S row from → from < row
  follows_earlier row from follows = elim (lead from row (its_copy S row from follows)).1 [
    | inl low ↦ absurd (let inner = follows.inner in omega arith)
    | inr next ↦ next
  ]

  pub follows_together : (row from : ℕ) → Follows S row from → AreTogether S row from
  follows_together row from follows set undivided = undivided.followed row from follows

-- the first rows of the classes of so many rows
pub record AreFirstRows (S : System) (rows : List ℕ) (n : ℕ) : Type 0 where
  pub count : length rows ≡ n
  pub small : (row : ℕ) → row < n → get_or rows row 0 ≤ row
  pub together : (row : ℕ) → row < n → AreTogether S row (get_or rows row 0)
  pub followed : (row from : ℕ) → row < n → Follows S row from → get_or rows row 0 ≡ get_or rows from 0

-- a row follows one row alone
one_from : (S : System) (row a b : ℕ) → Follows S row a → Follows S row b → a ≡ b
one_from S row a b fa fb = let e = sym fa.alone ∙ fb.alone in cc

pub firsts_begin : (S : System) → AreFirstRows S [] 0
firsts_begin S = record { count = refl; small = λ row lt. absurd (omega arith); together = λ row lt. absurd (omega arith); followed = λ row from lt. absurd (omega arith) }

pub onward_more : (S : System) (rows : List ℕ) (n first : ℕ) → CopiesLeadOn S → AreFirstRows S rows n → IsFirstOf S rows n first → AreFirstRows S (rows ++ first ∷ []) (n + 1)
onward_more S rows n first on f is =
    let long = f.count in
    let before : (k : ℕ) → k < n → get_or (rows ++ first ∷ []) k 0 ≡ get_or rows k 0 = λ k lt. get_or_append_left rows (first ∷ []) 0 k (omega arith) in
    let last : get_or (rows ++ first ∷ []) n 0 ≡ first = get_or_push rows first 0 n long in
    let at : (row : ℕ) → row ≡ n → get_or (rows ++ first ∷ []) row 0 ≡ first = λ row e. ap (λ (i : ℕ). get_or (rows ++ first ∷ []) i 0) e ∙ last in
    record {
      count = length-append rows (first ∷ []) ∙ ap (λ (m : ℕ). m + 1) long;
      small = λ row lt. elim (cases_eq row n) [
        | inl same ↦ (let e = at row same in elim is [
          | inl own ↦ (let i = own.0 in omega arith)
          | inr after ↦ (let i = after.2 in let lt' = follows_earlier S on n after.0 after.1 in let s = f.small after.0 lt' in omega arith)
        ])
        | inr apart ↦ (let lt' : row < n = omega arith in let e = before row lt' in let s = f.small row lt' in omega arith)
      ];
      together = λ row lt. elim (cases_eq row n) [
        | inl same ↦ subst (λ (r : ℕ). AreTogether S row r) (sym (at row same)) (subst (λ (r : ℕ). AreTogether S r first) (sym same) (elim is [
          | inl own ↦ subst (λ (r : ℕ). AreTogether S n r) (sym own.0) (together_refl S n)
          | inr after ↦ (let lt' = follows_earlier S on n after.0 after.1 in
              subst (λ (r : ℕ). AreTogether S n r) (sym after.2) (together_trans S n after.0 (get_or rows after.0 0) (follows_together S on n after.0 after.1) (f.together after.0 lt')))
        ]))
        | inr apart ↦ (let lt' : row < n = omega arith in subst (λ (r : ℕ). AreTogether S row r) (sym (before row lt')) (f.together row lt'))
      ];
      followed = λ row from lt follows. (let earlier = follows_earlier S on row from follows in
          let old = before from (omega arith) in
          elim (cases_eq row n) [
            | inl same ↦ (let here = subst (λ (r : ℕ). Follows S r from) same follows in elim is [
              | inl own ↦ absurd (own.1 from here)
              | inr after ↦ at row same ∙ after.2 ∙ ap (λ (i : ℕ). get_or rows i 0) (one_from S n after.0 from after.1 here) ∙ sym old
            ])
            | inr apart ↦ (let lt' : row < n = omega arith in before row lt' ∙ f.followed row from lt' follows ∙ sym old)
          ]);
    }

pub onward_done : (S : System) (rows : List ℕ) → IsValid S → CopiesLeadOn S → AreFirstRows S rows S.rows → AreClasses S rows
onward_done S rows valid on f = record {
  count = f.count;
  classes = λ row known. record {
    known = (let s = f.small row known in omega arith);
    together = f.together row known;
    smallest = λ other is together. (let s = f.small other is in
        let e : get_or rows other 0 ≡ get_or rows row 0 = eqb-true (get_or rows other 0) (get_or rows row 0) (sym (together (λ r. eqb (get_or rows r 0) (get_or rows row 0)) (undivided (get_or rows row 0))) ∙ eq-eqb (get_or rows row 0) (get_or rows row 0) refl) in
        omega arith);
  };
}
  where
    undivided : (c : ℕ) → IsUndivided S (λ r. eqb (get_or rows r 0) c)
    undivided c = record {
      followed = λ row from follows. ap (λ (r : ℕ). eqb r c) (f.followed row from (copy_rows S valid from row (its_copy S row from follows)).1 follows);
      cycles = λ a b there back. ap (λ (r : ℕ). eqb (get_or rows r 0) c) (no_cycle S on a b there back);
    }
