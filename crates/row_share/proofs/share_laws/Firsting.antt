-- One row more, for the first rows of classes.
use Rattle.std.proofs.Common.{◌≡◌, ℕ, ◌+◌, ◌<◌, ◌≤◌, List, [], ◌∷◌, ◌++◌, Option, Some, None, length, get_or, set, sym, ◌∙◌, ap, inl, inr, arith, length-set, get_or-set_same, get_or-set_other}
use Rattle.std.specs.Option.{unwrap_or}
use Rattle.std.proofs.lemmas.Bool.{cases_eq, cases_lt}
use Rattle.std.proofs.lemmas.List.{get_or_append_left, get_or_push, length-append}
use Rattle.std.proofs.lemmas.Option.{same_Some}
use Rattle.row_share.specs.share_laws.Gathered.{class_of, AreFirst}
use Rattle.row_share.specs.share_laws.Firsts.{IsFirstSo, AreFirstSo}

-- the first row of the class, with one row more
pub record IsLeastSo (classes : List (Option ℕ)) (n class least : ℕ) : Type 0 where
  pub within : least ≤ n
  pub has : class_of classes least ≡ Some class
  pub lowest : (k : ℕ) → k < n + 1 → class_of classes k ≡ Some class → least ≤ k

pub least_so : (classes table : List (Option ℕ)) (n class least : ℕ) → IsFirstSo classes table n class → class_of classes n ≡ Some class → least ≡ unwrap_or (get_or table class None) n → IsLeastSo classes n class least
least_so classes table n class least first here e = elim first [
  | inl none ↦ (let is : least ≡ n = e ∙ ap (λ (o : Option ℕ). unwrap_or o n) none.0 in record {
    within = omega arith;
    has = ap (class_of classes) is ∙ here;
    lowest = λ k lt h. elim (cases_lt k n) [
      | inl older ↦ absurd (none.1 k older h)
      | inr above ↦ omega arith
    ];
  })
  | inr some ↦ (let is : least ≡ some.0 = e ∙ ap (λ (o : Option ℕ). unwrap_or o n) some.1 in record {
    within = (let lt = some.2 in omega arith);
    has = ap (class_of classes) is ∙ some.3;
    lowest = λ k lt h. elim (cases_lt k n) [
      | inl older ↦ (let le = some.4 k older h in omega arith)
      | inr above ↦ (let small = some.2 in omega arith)
    ];
  })
]

pub firsts_more : (classes table : List (Option ℕ)) (rows : List ℕ) (n class least : ℕ) → AreFirstSo classes table rows n → class < length classes → class_of classes n ≡ Some class
    → least ≡ unwrap_or (get_or table class None) n → AreFirstSo classes (set table class (Some least)) (rows ++ least ∷ []) (n + 1)
firsts_more classes table rows n class least f small here e =
    let l = least_so classes table n class least (f.firsts class small) here e in
    let long = f.count in
    let size = f.sized in
    let before : (k : ℕ) → k < n → get_or (rows ++ least ∷ []) k 0 ≡ get_or rows k 0 = λ k lt. get_or_append_left rows (least ∷ []) 0 k (omega arith) in
    let last : get_or (rows ++ least ∷ []) n 0 ≡ least = get_or_push rows least 0 n long in
    record {
      sized = length-set table class (Some least) ∙ f.sized;
      count = length-append rows (least ∷ []) ∙ ap (λ (m : ℕ). m + 1) long;
      firsts = λ c lt. elim (cases_eq c class) [
        | inl same ↦ inr (
          least,
          ap (λ (i : ℕ). get_or (set table class (Some least)) i None) same ∙ get_or-set_same table class (Some least) None (omega arith),
          (let w = l.within in omega arith),
          l.has ∙ ap Some (sym same),
          λ k below h. l.lowest k below (h ∙ ap Some same),
        )
        | inr apart ↦ (let other : get_or (set table class (Some least)) c None ≡ get_or table c None = get_or-set_other table class c (Some least) None apart in
            elim (f.firsts c lt) [
              | inl none ↦ inl (
                other ∙ none.0,
                λ k below h. elim (cases_lt k n) [
                  | inl older ↦ none.1 k older h
                  | inr above ↦ (let is : k ≡ n = omega arith in apart (same_Some c class (sym h ∙ ap (class_of classes) is ∙ here)))
                ],
              )
              | inr some ↦ inr (
                some.0,
                other ∙ some.1,
                (let m = some.2 in omega arith),
                some.3,
                λ k below h. elim (cases_lt k n) [
                  | inl older ↦ some.4 k older h
                  | inr above ↦ (let m = some.2 in omega arith)
                ],
              )
            ])
      ];
      same = λ row lt. elim (cases_eq row n) [
        | inl is ↦ (let at : get_or (rows ++ least ∷ []) row 0 ≡ least = ap (λ (i : ℕ). get_or (rows ++ least ∷ []) i 0) is ∙ last in
            ((let w = l.within in omega arith), ap (class_of classes) at ∙ l.has ∙ sym here ∙ ap (class_of classes) (sym is)))
        | inr apart ↦ (let old = f.same row (omega arith) in let at = before row (omega arith) in
            ((let le = old.0 in omega arith), ap (class_of classes) at ∙ old.1))
      ];
      first = λ row other lt h. elim (cases_eq row n) [
        | inl is ↦ (let at : get_or (rows ++ least ∷ []) row 0 ≡ least = ap (λ (i : ℕ). get_or (rows ++ least ∷ []) i 0) is ∙ last in
            let has : class_of classes other ≡ Some class = h ∙ ap (class_of classes) is ∙ here in
            elim (cases_lt other (n + 1)) [
              | inl below ↦ (let le = l.lowest other below has in omega arith)
              | inr above ↦ (let w = l.within in omega arith)
            ])
        | inr apart ↦ (let old = f.first row other (omega arith) h in let at = before row (omega arith) in omega arith)
      ];
    }

pub firsts_done : (classes table : List (Option ℕ)) (rows : List ℕ) → AreFirstSo classes table rows (length classes) → AreFirst classes rows
firsts_done classes table rows f = record {
  count = f.count;
  same = λ row lt. f.same row lt;
  first = λ row other lt _ h. f.first row other lt h;
}
