-- Steps of noting what can add to rows.
use Rattle.std.proofs.Common.{◌≡◌, ◌⊎◌, ℕ, ◌+◌, ◌<◌, Bool, true, cond, List, [], ◌∷◌, ◌++◌, length, take, get_or, set, Contains, refl, sym, ◌∙◌, ap, subst, inl, inr, arith, length-set, get_or-set_same, get_or-set_other}
use Rattle.std.proofs.lemmas.Bool.{cases_Bool, cases_eq, cases_lt}
use Rattle.std.proofs.lemmas.List.{take_more, append-nil}
use Rattle.std.proofs.lemmas.List.Elements.{filter_more, filter_passes, Contains-append_left, Contains-push, Contains-push_cases, All-contains}
use Rattle.std.proofs.lemmas.Bool.{eqb-true}
use Rattle.sol_model.specs.declared.system.System.{System}
use Rattle.sol_model.specs.declared.system.Constraint.{Constraint}
use Rattle.sol_model.specs.declared.system.Constraint.TheVariants.{Address, Copy, Load, Store, Field, Contents, Call}
use Rattle.sol_model.specs.Systems.{location_count}
use Rattle.row_share.specs.declared.row_classes.inflow.Inflow.{Inflow}
use Rattle.row_share.specs.declared.row_classes.inflow.Inflow.TheVariants.{Nothing, CopyOf, More}
use Rattle.row_share.specs.row_classes.Flowing.{inflow_of, inflow_at, Notes, AreInflows, Bars}
use Rattle.row_share.specs.share_laws.Classes.{adds_to, adding, IsInResult, IsInParameter}

-- ---- lists of constraints
nothing_nil : (xs : List Constraint) → inflow_of xs ≡ Nothing → xs ≡ []
nothing_nil [] e = refl
nothing_nil (Copy from to ∷ []) e = cc
nothing_nil (Copy from to ∷ y ∷ xs) e = cc
nothing_nil (Address to location ∷ xs) e = cc
nothing_nil (Load pointer to ty sub ∷ xs) e = cc
nothing_nil (Store pointer from ty sub ∷ xs) e = cc
nothing_nil (Field from to ty member ∷ xs) e = cc
nothing_nil (Contents to from ∷ xs) e = cc
nothing_nil (Call number ∷ xs) e = cc

push_more : (x : Constraint) (xs : List Constraint) (c : Constraint) → inflow_of ((x ∷ xs) ++ c ∷ []) ≡ More
push_more (Copy from to) [] c = refl
push_more (Copy from to) (y ∷ xs) c = refl
push_more (Address to location) xs c = refl
push_more (Load pointer to ty sub) xs c = refl
push_more (Store pointer from ty sub) xs c = refl
push_more (Field from to ty member) xs c = refl
push_more (Contents to from) xs c = refl
push_more (Call number) xs c = refl

nothing_cases : (x : Inflow) → (x ≡ Nothing) ⊎ (x ≡ Nothing → ⊥)
nothing_cases Nothing = inl refl
nothing_cases (CopyOf from) = inr (λ e. cc)
nothing_cases More = inr (λ e. cc)

push_further : (xs : List Constraint) (c : Constraint) → (inflow_of xs ≡ Nothing → ⊥) → inflow_of (xs ++ c ∷ []) ≡ More
push_further [] c h = absurd (h refl)
push_further (x ∷ xs) c h = push_more x xs c

one_copy : (xs : List Constraint) (from : ℕ) → inflow_of xs ≡ CopyOf from → (to : ℕ) × (xs ≡ Copy from to ∷ [])
one_copy [] from e = absurd cc
one_copy (Copy source to ∷ []) from e = (to, (let s : source ≡ from = cc in ap (λ (a : ℕ). Copy a to ∷ []) s))
one_copy (Copy source to ∷ y ∷ xs) from e = absurd cc
one_copy (Address to location ∷ xs) from e = absurd cc
one_copy (Load pointer to ty sub ∷ xs) from e = absurd cc
one_copy (Store pointer source ty sub ∷ xs) from e = absurd cc
one_copy (Field source to ty member ∷ xs) from e = absurd cc
one_copy (Contents to source ∷ xs) from e = absurd cc
one_copy (Call number ∷ xs) from e = absurd cc

pub note_step : (constraints : List Constraint) (i row : ℕ) (constraint : Constraint) (before after : Inflow) → i < length constraints → get_or constraints i constraint ≡ constraint → Notes constraint row before after
    → before ≡ inflow_of (adding row (take i constraints)) → after ≡ inflow_of (adding row (take (i + 1) constraints))
note_step constraints i row constraint before after lt at notes old =
    let more : adding row (take (i + 1) constraints) ≡ adding row (take i constraints) ++ cond (adds_to row constraint) (constraint ∷ []) [] =
    filter_more (adds_to row) constraints i constraint lt ∙ ap (λ (c : Constraint). adding row (take i constraints) ++ cond (adds_to row c) (c ∷ []) []) at in
    elim (cases_Bool (adds_to row constraint)) [
      | inl adds ↦ (let e : adding row (take (i + 1) constraints) ≡ adding row (take i constraints) ++ constraint ∷ [] = more ∙ ap (λ (b : Bool). adding row (take i constraints) ++ cond b (constraint ∷ []) []) adds in
          elim (nothing_cases before) [
            | inl none ↦ notes.first adds none ∙ ap (λ (xs : List Constraint). inflow_of (xs ++ constraint ∷ [])) (sym (nothing_nil (adding row (take i constraints)) (sym old ∙ none))) ∙ ap inflow_of (sym e)
            | inr some ↦ notes.further adds some ∙ sym (push_further (adding row (take i constraints)) constraint (λ n. some (old ∙ n))) ∙ ap inflow_of (sym e)
          ])
      | inr other ↦ notes.other other ∙ old ∙ ap inflow_of (sym (more ∙ ap (λ (b : Bool). adding row (take i constraints) ++ cond b (constraint ∷ []) []) other ∙ append-nil (adding row (take i constraints))))
    ]

-- ---- rows that became More
pub bars_none : (P : ℕ → Type 0) (xs : List Inflow) → ((row : ℕ) → P row → ⊥) → Bars P xs xs
bars_none P xs none = record { sized = refl; each = λ row lt. inr (refl, none row) }

pub bars_same : (P Q : ℕ → Type 0) (old new : List Inflow) → ((row : ℕ) → P row → Q row) → ((row : ℕ) → Q row → P row) → Bars P old new → Bars Q old new
bars_same P Q old new there back bars = record {
  sized = bars.sized;
  each = λ row lt. elim (bars.each row lt) [
    | inl barred ↦ inl (barred.0, there row barred.1)
    | inr kept ↦ inr (kept.0, λ q. kept.1 (back row q))
  ];
}

pub bars_both : (P Q : ℕ → Type 0) (old mid new : List Inflow) → Bars P old mid → Bars Q mid new → Bars (λ row. P row ⊎ Q row) old new
bars_both P Q old mid new first second = record {
  sized = second.sized ∙ first.sized;
  each = λ row lt. elim (second.each row (let e = first.sized in omega arith)) [
    | inl barred ↦ inl (barred.0, inr barred.1)
    | inr kept ↦ elim (first.each row lt) [
      | inl before ↦ inl (kept.0 ∙ before.0, inl before.1)
      | inr also ↦ inr (kept.0 ∙ also.0, λ h. elim h [ inl p ↦ also.1 p | inr q ↦ kept.1 q ])
    ]
  ];
}

pub bars_set : (xs : List Inflow) (x : ℕ) → x < length xs → Bars (λ row. row ≡ x) xs (set xs x More)
bars_set xs x lt = record {
  sized = length-set xs x More;
  each = λ row inside. elim (cases_eq row x) [
    | inl same ↦ inl (ap (inflow_at (set xs x More)) same ∙ get_or-set_same xs x More More lt, same)
    | inr apart ↦ inr (get_or-set_other xs x row More More apart, apart)
  ];
}

-- one row more of a list
pub bars_row : (rows : List ℕ) (n x : ℕ) (old mid : List Inflow) → n < length rows → x ≡ get_or rows n 0 → x < length mid → Bars (λ row. Contains (take n rows) row) old mid → Bars (λ row. Contains (take (n + 1) rows) row) old (set mid x More)
bars_row rows n x old mid lt is small bars =
    bars_same (λ row. Contains (take n rows) row ⊎ (row ≡ x)) (λ row. Contains (take (n + 1) rows) row) old (set mid x More)
    (λ row h. subst (λ (ys : List ℕ). Contains ys row) (sym (take_more rows n 0 lt)) (elim h [
      | inl older ↦ Contains-append_left (take n rows) (get_or rows n 0 ∷ []) row older
      | inr same ↦ subst (Contains (take n rows ++ get_or rows n 0 ∷ [])) (sym is ∙ sym same) (Contains-push (take n rows) (get_or rows n 0))
    ]))
    (λ row h. elim (Contains-push_cases (take n rows) (get_or rows n 0) row (subst (λ (ys : List ℕ). Contains ys row) (take_more rows n 0 lt) h)) [
      | inl older ↦ inl older
      | inr same ↦ inr (sym same ∙ sym is)
    ])
    (bars_both (λ row. Contains (take n rows) row) (λ row. row ≡ x) old mid (set mid x More) bars (bars_set mid x small))

-- one location more
pub bars_location : (n : ℕ) (old mid : List Inflow) → n < length mid → Bars (λ row. row < n) old mid → Bars (λ row. row < n + 1) old (set mid n More)
bars_location n old mid small bars =
    bars_same (λ row. (row < n) ⊎ (row ≡ n)) (λ row. row < n + 1) old (set mid n More)
    (λ row h. elim h [ inl lt ↦ omega arith | inr same ↦ omega arith ])
    (λ row h. elim (cases_lt row n) [ inl lt ↦ inl lt | inr above ↦ inr (omega arith) ])
    (bars_both (λ row. row < n) (λ row. row ≡ n) old mid (set mid n More) bars (bars_set mid n small))

-- one part more, of which some rows are barred
pub bars_part : {X : Type 0} (P : X → ℕ → Type 0) (xs : List X) (n : ℕ) (x : X) (old mid new : List Inflow) → n < length xs → get_or xs n x ≡ x
    → Bars (λ row. (y : X) × Contains (take n xs) y × P y row) old mid → Bars (P x) mid new → Bars (λ row. (y : X) × Contains (take (n + 1) xs) y × P y row) old new
bars_part {X} P xs n x old mid new lt at bars more =
    let e : take (n + 1) xs ≡ take n xs ++ x ∷ [] = take_more xs n x lt ∙ ap (λ (y : X). take n xs ++ y ∷ []) at in
    bars_same (λ row. ((y : X) × Contains (take n xs) y × P y row) ⊎ P x row) (λ row. (y : X) × Contains (take (n + 1) xs) y × P y row) old new
    (λ row h. elim h [
      | inl older ↦ (older.0, subst (λ (ys : List X). Contains ys older.0) (sym e) (Contains-append_left (take n xs) (x ∷ []) older.0 older.1), older.2)
      | inr here ↦ (x, subst (λ (ys : List X). Contains ys x) (sym e) (Contains-push (take n xs) x), here)
    ])
    (λ row h. elim (Contains-push_cases (take n xs) x h.0 (subst (λ (ys : List X). Contains ys h.0) e h.1)) [
      | inl older ↦ inl (h.0, older, h.2)
      | inr same ↦ inr (subst (λ (y : X). P y row) (sym same) h.2)
    ])
    (bars_both (λ row. (y : X) × Contains (take n xs) y × P y row) (P x) old mid new bars more)

-- ---- all of it
pub inflows_done : (S : System) (a b c d : List Inflow) → length a ≡ S.rows → ((row : ℕ) → row < length a → inflow_at a row ≡ inflow_of (adding row S.constraints))
    → Bars (λ row. row < location_count S) a b → Bars (IsInResult S.calls) b c → Bars (IsInParameter S.functions) c d → AreInflows S d
inflows_done S a b c d sized noted first second third =
    let all = bars_both (λ row. (row < location_count S) ⊎ IsInResult S.calls row) (IsInParameter S.functions) a c d (bars_both (λ row. row < location_count S) (IsInResult S.calls) a b c first second) third in
    record {
      sized = all.sized ∙ sized;
      shown = λ row from known follows. elim (all.each row (omega arith)) [
        | inl barred ↦ absurd (elim barred.1 [
          | inl one ↦ elim one [ inl low ↦ (let high = follows.inner in omega arith) | inr result ↦ follows.no_result result ]
          | inr parameter ↦ follows.no_parameter parameter
        ])
        | inr kept ↦ kept.0 ∙ noted row (omega arith) ∙ ap inflow_of follows.alone
      ];
      follows = λ row from known shown. elim (all.each row (omega arith)) [
        | inl barred ↦ absurd (let e = sym barred.0 ∙ shown in cc)
        | inr kept ↦ (let o = one_copy (adding row S.constraints) from (sym (noted row (omega arith)) ∙ sym kept.0 ∙ shown) in
            let adds : adds_to row (Copy from o.0) ≡ true = All-contains (λ x. adds_to row x ≡ true) (adding row S.constraints) (Copy from o.0) (filter_passes (adds_to row) S.constraints)
            (subst (λ (xs : List Constraint). Contains xs (Copy from o.0)) (sym o.1) (0, omega arith, refl)) in
            let to : o.0 ≡ row = eqb-true o.0 row adds in record {
              inner = elim (cases_lt row (location_count S)) [ inl low ↦ absurd (kept.1 (inl (inl low))) | inr high ↦ high ];
              alone = o.1 ∙ ap (λ (t : ℕ). Copy from t ∷ []) to;
              no_result = λ h. kept.1 (inl (inr h));
              no_parameter = λ h. kept.1 (inr h);
            })
      ];
    }
