-- The steps of a search in depth.
use Rattle.std.proofs.Common.{◌≡◌, ◌⊎◌, ℕ, zero, suc, ◌+◌, ◌<◌, ◌≤◌, Bool, true, false, cond, eqb, List, [], ◌∷◌, ◌++◌, length, get_or, set, refl, sym, ◌∙◌, ap, subst, inl, inr, arith, length-set, get_or-set_same, get_or-set_other}
use Rattle.std.proofs.lemmas.Bool.{eq-eqb, ne_eqb, cases_eq, cases_lt, true≢false}
use Rattle.std.proofs.lemmas.List.{get_or_append_left, get_or_push, get_or_past, length-append, length-map, map-append, get_or-map}
use Rattle.std.proofs.lemmas.List.Elements.{Contains-get_or}
use Rattle.sol_model.specs.declared.system.System.{System}
use Rattle.sol_model.specs.Systems.{IsRow}
use Rattle.row_share.specs.share_laws.Classes.{IsCopy, Reaches}
use Rattle.row_share.specs.share_laws.Orders.{AreTargets, LeavesLate, IsOrder, is_seen, times, rows_on, step_at, IsSearch}
use Rattle.row_share.proofs.share_laws.Times.{times_push, times_at, times_some, times_once}

pub reach_refl : (S : System) (a : ℕ) → Reaches S a a
reach_refl S a set kept h = h

pub reach_trans : (S : System) (a b c : ℕ) → Reaches S a b → Reaches S b c → Reaches S a c
reach_trans S a b c p q set kept h = q set kept (p set kept h)

pub reach_copy : (S : System) (a b : ℕ) → IsCopy S a b → Reaches S a b
reach_copy S a b copy set kept h = kept a b copy h

pub seen_more : (seen : List Bool) (row other : ℕ) → row < length seen → is_seen seen other ≡ true → is_seen (set seen row true) other ≡ true
seen_more seen row other lt h = elim (cases_eq other row) [
  | inl same ↦ subst (λ (k : ℕ). get_or (set seen row true) k false ≡ true) (sym same) (get_or-set_same seen row true false lt)
  | inr apart ↦ get_or-set_other seen row other true false apart ∙ h
]

rows_push : (path : List (ℕ × ℕ)) (row n : ℕ) → rows_on (path ++ (row, n) ∷ []) ≡ rows_on path ++ row ∷ []
rows_push path row n = map-append (λ (step : ℕ × ℕ). step.0) path ((row, n) ∷ [])

path_times : (r : ℕ) (path : List (ℕ × ℕ)) (row n : ℕ) → times r (rows_on (path ++ (row, n) ∷ [])) ≡ times r (rows_on path) + cond (eqb row r) 1 0
path_times r path row n = ap (times r) (rows_push path row n) ∙ times_push r row (rows_on path)

step_left : (path : List (ℕ × ℕ)) (row n i : ℕ) → i < length path → step_at (path ++ (row, n) ∷ []) i ≡ step_at path i
step_left path row n i lt = get_or_append_left path ((row, n) ∷ []) (0, 0) i lt

step_end : (path : List (ℕ × ℕ)) (row n : ℕ) → step_at (path ++ (row, n) ∷ []) (length path) ≡ (row, n)
step_end path row n = get_or_push path (row, n) (0, 0) (length path) refl

length_push : (path : List (ℕ × ℕ)) (row n : ℕ) → length (path ++ (row, n) ∷ []) ≡ length path + 1
length_push path row n = length-append path ((row, n) ∷ [])

-- a place of a pushed path: an older one, or the end
place : (path : List (ℕ × ℕ)) (row n i : ℕ) → i < length (path ++ (row, n) ∷ []) → (i < length path) ⊎ (i ≡ length path)
place path row n i lt = let e = length_push path row n in elim (cases_lt i (length path)) [
  | inl older ↦ inl older
  | inr above ↦ inr (omega arith)
]

module _ (S : System) (targets : ℕ → List ℕ) (order : List ℕ) where
  -- another note at the end of the path
  pub search_note : (path : List (ℕ × ℕ)) (seen : List Bool) (row n m : ℕ) → IsSearch S targets order (path ++ (row, n) ∷ []) seen
      → ((k : ℕ) → n ≤ k → k < m → is_seen seen (get_or (targets row) k 0) ≡ true) → IsSearch S targets order (path ++ (row, m) ∷ []) seen
  search_note path seen row n m s more = record {
    sized = s.sized;
    counted = λ r. ap (λ (x : ℕ). times r order + x) (path_times r path row m ∙ sym (path_times r path row n)) ∙ s.counted r;
    above = λ i j le lt. subst (λ (x : ℕ). Reaches S (step_at (path ++ (row, m) ∷ []) i).0 x) (same_row j) (subst (λ (x : ℕ). Reaches S x (step_at (path ++ (row, n) ∷ []) j).0) (same_row i)
        (s.above i j le (let a = length_push path row n in let b = length_push path row m in omega arith)));
    looked = λ i k lt small inside. elim (place path row m i lt) [
      | inl older ↦ (let e = step_left path row m i older in
          let f = step_left path row n i older in
          subst (λ (step : ℕ × ℕ). is_seen seen (get_or (targets step.0) k 0) ≡ true) (f ∙ sym e)
          (s.looked i k (let a = length_push path row n in omega arith) (subst (λ (step : ℕ × ℕ). k < step.1) (e ∙ sym f) small) (subst (λ (step : ℕ × ℕ). k < length (targets step.0)) (e ∙ sym f) inside)))
      | inr last ↦ (let e : step_at (path ++ (row, m) ∷ []) i ≡ (row, m) = ap (step_at (path ++ (row, m) ∷ [])) last ∙ step_end path row m in
          let f = step_end path row n in
          let below : k < m = subst (λ (step : ℕ × ℕ). k < step.1) e small in
          let in_targets : k < length (targets row) = subst (λ (step : ℕ × ℕ). k < length (targets step.0)) e inside in
          subst (λ (step : ℕ × ℕ). is_seen seen (get_or (targets step.0) k 0) ≡ true) (sym e) (elim (cases_lt k n) [
            | inl before ↦ subst (λ (step : ℕ × ℕ). is_seen seen (get_or (targets step.0) k 0) ≡ true) f
                (s.looked (length path) k (let a = length_push path row n in omega arith) (subst (λ (step : ℕ × ℕ). k < step.1) (sym f) before) (subst (λ (step : ℕ × ℕ). k < length (targets step.0)) (sym f) in_targets))
            | inr after ↦ more k after below
          ]))
    ];
    left = s.left;
    late = s.late;
  }
    where
      same_row : (i : ℕ) → (step_at (path ++ (row, n) ∷ []) i).0 ≡ (step_at (path ++ (row, m) ∷ []) i).0
      same_row i = elim (cases_lt i (length path)) [
        | inl older ↦ ap (λ (step : ℕ × ℕ). step.0) (step_left path row n i older ∙ sym (step_left path row m i older))
        | inr above ↦ elim (cases_eq i (length path)) [
          | inl last ↦ ap (λ (step : ℕ × ℕ). step.0) (ap (step_at (path ++ (row, n) ∷ [])) last ∙ step_end path row n) ∙ sym (ap (λ (step : ℕ × ℕ). step.0) (ap (step_at (path ++ (row, m) ∷ [])) last ∙ step_end path row m))
          | inr past ↦ ap (λ (step : ℕ × ℕ). step.0) (get_or_past (path ++ (row, n) ∷ []) i (0, 0) (let a = length_push path row n in omega arith)) ∙ sym (ap (λ (step : ℕ × ℕ). step.0) (get_or_past (path ++ (row, m) ∷ []) i (0, 0) (let a = length_push path row m in omega arith)))
        ]
      ]

  count_new : (seen : List Bool) (row r a b : ℕ) → row < length seen → is_seen seen row ≡ false → a + b ≡ cond (is_seen seen r) 1 0 → a + (b + cond (eqb row r) 1 0) ≡ cond (is_seen (set seen row true) r) 1 0
  count_new seen row r a b lt unseen e = elim (cases_eq row r) [
    | inl same ↦ (let x : cond (eqb row r) 1 0 ≡ 1 = ap (λ (t : Bool). cond t 1 0) (eq-eqb row r same) in
        let y : cond (is_seen (set seen row true) r) 1 0 ≡ 1 = ap (λ (t : Bool). cond t 1 0) (subst (λ (k : ℕ). get_or (set seen row true) k false ≡ true) same (get_or-set_same seen row true false lt)) in
        let z : cond (is_seen seen r) 1 0 ≡ 0 = ap (λ (t : Bool). cond t 1 0) (subst (λ (k : ℕ). is_seen seen k ≡ false) same unseen) in
        ap (λ (n : ℕ). a + (b + n)) x ∙ one a b (e ∙ z) ∙ sym y)
    | inr apart ↦ (let x : cond (eqb row r) 1 0 ≡ 0 = ap (λ (t : Bool). cond t 1 0) (ne_eqb row r apart) in
        let y : cond (is_seen (set seen row true) r) 1 0 ≡ cond (is_seen seen r) 1 0 = ap (λ (t : Bool). cond t 1 0) (get_or-set_other seen row r true false (λ h. apart (sym h))) in
        ap (λ (n : ℕ). a + (b + n)) x ∙ none a b ∙ e ∙ sym y)
  ]
    where
      one : (a b : ℕ) → a + b ≡ 0 → a + (b + 1) ≡ 1
      one a b h = omega arith

      none : (a b : ℕ) → a + (b + 0) ≡ a + b
      none a b = omega arith

  -- a new row at the end of the path
  pub search_enter : (path : List (ℕ × ℕ)) (seen : List Bool) (row : ℕ) → IsSearch S targets order path seen → row < length seen → is_seen seen row ≡ false
      → ((i : ℕ) → i < length path → Reaches S (step_at path i).0 row) → IsSearch S targets order (path ++ (row, 0) ∷ []) (set seen row true)
  search_enter path seen row s lt unseen reach = record {
    sized = length-set seen row true ∙ s.sized;
    counted = λ r. ap (λ (x : ℕ). times r order + x) (path_times r path row 0) ∙ count_new seen row r (times r order) (times r (rows_on path)) lt unseen (s.counted r);
    above = λ i j le inside. elim (place path row 0 j inside) [
      | inl older ↦ subst (λ (x : ℕ). Reaches S x (step_at (path ++ (row, 0) ∷ []) j).0) (ap (λ (step : ℕ × ℕ). step.0) (sym (step_left path row 0 i (omega arith))))
          (subst (λ (x : ℕ). Reaches S (step_at path i).0 x) (ap (λ (step : ℕ × ℕ). step.0) (sym (step_left path row 0 j older))) (s.above i j le older))
      | inr last ↦ subst (λ (x : ℕ). Reaches S (step_at (path ++ (row, 0) ∷ []) i).0 x) (ap (λ (step : ℕ × ℕ). step.0) (sym (ap (step_at (path ++ (row, 0) ∷ [])) last ∙ step_end path row 0)))
          (elim (cases_lt i (length path)) [
            | inl older ↦ subst (λ (x : ℕ). Reaches S x row) (ap (λ (step : ℕ × ℕ). step.0) (sym (step_left path row 0 i older))) (reach i older)
            | inr above ↦ (let e : i ≡ length path = omega arith in subst (λ (x : ℕ). Reaches S x row) (ap (λ (step : ℕ × ℕ). step.0) (sym (ap (step_at (path ++ (row, 0) ∷ [])) e ∙ step_end path row 0))) (reach_refl S row))
          ])
    ];
    looked = λ i k inside small in_targets. elim (place path row 0 i inside) [
      | inl older ↦ (let e = step_left path row 0 i older in
          subst (λ (step : ℕ × ℕ). is_seen (set seen row true) (get_or (targets step.0) k 0) ≡ true) (sym e)
          (seen_more seen row (get_or (targets (step_at path i).0) k 0) lt
          (s.looked i k older (subst (λ (step : ℕ × ℕ). k < step.1) e small) (subst (λ (step : ℕ × ℕ). k < length (targets step.0)) e in_targets))))
      | inr last ↦ (let e : step_at (path ++ (row, 0) ∷ []) i ≡ (row, 0) = ap (step_at (path ++ (row, 0) ∷ [])) last ∙ step_end path row 0 in
          let none : k < 0 = subst (λ (step : ℕ × ℕ). k < step.1) e small in absurd (omega arith))
    ];
    left = λ i to inside copy. seen_more seen row to lt (s.left i to inside copy);
    late = s.late;
  }

seen_count : (seen : List Bool) (r a b : ℕ) → is_seen seen r ≡ true → a + b ≡ cond (is_seen seen r) 1 0 → a + b ≡ 1
seen_count seen r a b known e = e ∙ ap (λ (t : Bool). cond t 1 0) known

-- where a row on the path stands
on_path : (r : ℕ) (path : List (ℕ × ℕ)) → 1 ≤ times r (rows_on path) → (i : ℕ) × (i < length path) × ((step_at path i).0 ≡ r)
on_path r path h =
    let w = times_at r (rows_on path) h in
    let lt : w.0 < length path = (let l = length-map path (λ (step : ℕ × ℕ). step.0) in let m = w.1 in omega arith) in
    (w.0, lt, sym (get_or-map (λ (step : ℕ × ℕ). step.0) path w.0 (0, 0) 0 lt) ∙ w.2)

module _ (S : System) (targets : ℕ → List ℕ) (are : AreTargets S targets) (order : List ℕ) (path : List (ℕ × ℕ)) (seen : List Bool) (row n : ℕ) (s : IsSearch S targets order (path ++ (row, n) ∷ []) seen) where
  order_left : (i : ℕ) → i < length order → get_or (order ++ row ∷ []) i 0 ≡ get_or order i 0
  order_left i lt = get_or_append_left order (row ∷ []) 0 i lt

  order_end : get_or (order ++ row ∷ []) (length order) 0 ≡ row
  order_end = get_or_push order row 0 (length order) refl

  longer : length (order ++ row ∷ []) ≡ length order + 1
  longer = length-append order (row ∷ [])

  -- a row that was seen was left, or reaches the row at the end of the path
  left_or_reaches : (to : ℕ) → is_seen seen to ≡ true → ((k : ℕ) × (k < length order) × (get_or order k 0 ≡ to)) ⊎ Reaches S to row
  left_or_reaches to known =
      let one = seen_count seen to (times to order) (times to (rows_on (path ++ (row, n) ∷ []))) known (s.counted to) in
      elim (cases_lt 0 (times to order)) [
        | inl some ↦ inl (times_at to order some)
        | inr none ↦ inr (let p = on_path to (path ++ (row, n) ∷ []) (omega arith) in
            let e = length_push path row n in
            subst (λ (x : ℕ). Reaches S x row) p.2 (subst (λ (x : ℕ). Reaches S (step_at (path ++ (row, n) ∷ []) p.0).0 x) (ap (λ (step : ℕ × ℕ). step.0) (step_end path row n))
            (s.above p.0 (length path) (let lt = p.1 in omega arith) (omega arith))))
      ]

  module _ (all : (k : ℕ) → n ≤ k → k < length (targets row) → is_seen seen (get_or (targets row) k 0) ≡ true) where
    targets_seen : (to : ℕ) → IsCopy S row to → is_seen seen to ≡ true
    targets_seen to copy =
        let w = are.listed row to copy in
        let at : get_or (targets row) w.0 0 ≡ to = get_or_zero (targets row) w.0 to w.1 w.2 in
        subst (λ (x : ℕ). is_seen seen x ≡ true) at (elim (cases_lt w.0 n) [
          | inl before ↦ (let f = step_end path row n in
              subst (λ (step : ℕ × ℕ). is_seen seen (get_or (targets step.0) w.0 0) ≡ true) f
              (s.looked (length path) w.0 (let a = length_push path row n in omega arith) (subst (λ (step : ℕ × ℕ). w.0 < step.1) (sym f) before) (subst (λ (step : ℕ × ℕ). w.0 < length (targets step.0)) (sym f) w.1)))
          | inr after ↦ all w.0 after w.1
        ])
      where
        get_or_zero : (xs : List ℕ) (i x : ℕ) → i < length xs → get_or xs i x ≡ x → get_or xs i 0 ≡ x
        get_or_zero (y ∷ xs) zero x lt e = e
        get_or_zero (y ∷ xs) (suc i) x lt e = get_or_zero xs i x (omega arith) e
        get_or_zero [] i x lt e = absurd (omega arith)

    left_after : (i to : ℕ) → i < length (order ++ row ∷ []) → IsCopy S (get_or (order ++ row ∷ []) i 0) to → is_seen seen to ≡ true
    left_after i to lt copy = elim (cases_lt i (length order)) [
      | inl older ↦ s.left i to older (subst (λ (x : ℕ). IsCopy S x to) (order_left i older) copy)
      | inr above ↦ (let e : i ≡ length order = (let l = longer in omega arith) in
          targets_seen to (subst (λ (x : ℕ). IsCopy S x to) (ap (λ (k : ℕ). get_or (order ++ row ∷ []) k 0) e ∙ order_end) copy))
    ]

    late_after : LeavesLate S (order ++ row ∷ [])
    late_after i j to le lt copy = elim (cases_lt j (length order)) [
      | inl older ↦ (let li : i < length order = omega arith in
          elim (s.late i j to le older (subst (λ (x : ℕ). IsCopy S x to) (order_left i li) copy)) [
            | inl there ↦ inl (there.0, there.1, order_left there.0 (let m = there.1 in omega arith) ∙ there.2)
            | inr reached ↦ inr (subst (λ (x : ℕ). Reaches S to x) (sym (order_left j older)) reached)
          ])
      | inr above ↦ (let e : j ≡ length order = (let l = longer in omega arith) in
          let at : get_or (order ++ row ∷ []) j 0 ≡ row = ap (λ (k : ℕ). get_or (order ++ row ∷ []) k 0) e ∙ order_end in
          elim (left_or_reaches to (left_after i to (omega arith) copy)) [
            | inl there ↦ inl (there.0, (let m = there.1 in omega arith), order_left there.0 there.1 ∙ there.2)
            | inr reached ↦ inr (subst (λ (x : ℕ). Reaches S to x) (sym at) reached)
          ])
    ]

    -- the row at the end of the path is left
    pub search_leave : IsSearch S targets (order ++ row ∷ []) path seen
    search_leave = record {
      sized = s.sized;
      counted = λ r. (let a = times_push r row order in let b = path_times r path row n in let c = s.counted r in let one = cond (eqb row r) 1 0 in
          moved (times r order) one (times r (rows_on path)) (times r (order ++ row ∷ [])) (times r (rows_on (path ++ (row, n) ∷ []))) (cond (is_seen seen r) 1 0) a b c);
      above = λ i j le lt. subst (λ (x : ℕ). Reaches S x (step_at path j).0) (ap (λ (step : ℕ × ℕ). step.0) (step_left path row n i (omega arith)))
          (subst (λ (x : ℕ). Reaches S (step_at (path ++ (row, n) ∷ []) i).0 x) (ap (λ (step : ℕ × ℕ). step.0) (step_left path row n j lt))
          (s.above i j le (let l = length_push path row n in omega arith)));
      looked = λ i k lt small inside. (let e = step_left path row n i lt in
          subst (λ (step : ℕ × ℕ). is_seen seen (get_or (targets step.0) k 0) ≡ true) e
          (s.looked i k (let l = length_push path row n in omega arith) (subst (λ (step : ℕ × ℕ). k < step.1) (sym e) small) (subst (λ (step : ℕ × ℕ). k < length (targets step.0)) (sym e) inside)));
      left = left_after;
      late = late_after;
    }
      where
        moved : (a one b a' b' t : ℕ) → a' ≡ a + one → b' ≡ b + one → a + b' ≡ t → a' + b ≡ t
        moved a one b a' b' t p q r = omega arith

-- all rows were seen, and the path is empty
pub search_done : (S : System) (targets : ℕ → List ℕ) (order : List ℕ) (seen : List Bool) → IsSearch S targets order [] seen → ((row : ℕ) → IsRow S row → is_seen seen row ≡ true) → IsOrder S order
search_done S targets order seen s all = record {
  known = λ i lt. (let some = times_some (get_or order i 0) order i lt refl in
      let c = s.counted (get_or order i 0) in
      seen_known (get_or order i 0) some c);
  all = λ row known. (let one = seen_count seen row (times row order) 0 (all row known) (s.counted row) in times_at row order (omega arith));
  once = λ i j li lj same. (let c = s.counted (get_or order j 0) in times_once (get_or order j 0) order i j (at_most (get_or order j 0) c) li lj same refl);
  late = s.late;
}
  where
    at_most_one : (b : Bool) (m : ℕ) → m + 0 ≡ cond b 1 0 → m ≤ 1
    at_most_one true m e = omega arith
    at_most_one false m e = omega arith

    at_most : (r : ℕ) → times r order + 0 ≡ cond (is_seen seen r) 1 0 → times r order ≤ 1
    at_most r e = at_most_one (is_seen seen r) (times r order) e

    seen_from : (b : Bool) (m : ℕ) → 1 ≤ m → m + 0 ≡ cond b 1 0 → b ≡ true
    seen_from true m h e = refl
    seen_from false m h e = absurd (omega arith)

    seen_known : (r : ℕ) → 1 ≤ times r order → times r order + 0 ≡ cond (is_seen seen r) 1 0 → IsRow S r
    seen_known r some e = elim (cases_lt r S.rows) [
      | inl here ↦ here
      | inr past ↦ absurd (true≢false (sym (seen_from (is_seen seen r) (times r order) some e) ∙ get_or_past seen r false (let l = s.sized in omega arith)))
    ]

-- the search goes on to a target that wasn't seen
pub search_go : (S : System) (targets : ℕ → List ℕ) (are : AreTargets S targets) (order : List ℕ) (path : List (ℕ × ℕ)) (seen : List Bool) (row next at target : ℕ) → IsSearch S targets order (path ++ (row, next) ∷ []) seen
    → at < length (targets row) → target ≡ get_or (targets row) at 0 → target < length seen → is_seen seen target ≡ false → ((k : ℕ) → next ≤ k → k < at → is_seen seen (get_or (targets row) k 0) ≡ true)
    → IsSearch S targets order ((path ++ (row, at) ∷ []) ++ (target, 0) ∷ []) (set seen target true)
search_go S targets are order path seen row next at target s lt is small unseen before =
    let noted = search_note S targets order path seen row next at s before in
    search_enter S targets order (path ++ (row, at) ∷ []) seen target noted small unseen
    (λ i inside. (let long = length_push path row at in
    let copy : IsCopy S row target = subst (IsCopy S row) (sym is) (are.copies row (get_or (targets row) at 0) (Contains-get_or (targets row) at 0 lt)) in
    let up = noted.above i (length path) (omega arith) (omega arith) in
    reach_trans S (step_at (path ++ (row, at) ∷ []) i).0 row target (subst (λ (x : ℕ). Reaches S (step_at (path ++ (row, at) ∷ []) i).0 x) (ap (λ (step : ℕ × ℕ). step.0) (step_end path row at)) up) (reach_copy S row target copy)))

-- a search begins
pub search_begin : (S : System) (targets : ℕ → List ℕ) (order : List ℕ) (seen : List Bool) (root : ℕ) → IsSearch S targets order [] seen → root < length seen → is_seen seen root ≡ false → IsSearch S targets order ((root, 0) ∷ []) (set seen root true)
search_begin S targets order seen root s small unseen = search_enter S targets order [] seen root s small unseen (λ i lt. absurd (omega arith))

-- nothing was done yet
pub search_none : (S : System) (targets : ℕ → List ℕ) (seen : List Bool) → length seen ≡ S.rows → ((row : ℕ) → is_seen seen row ≡ false) → IsSearch S targets [] [] seen
search_none S targets seen sized none = record {
  sized = sized;
  counted = λ r. (let e : 0 ≡ cond (is_seen seen r) 1 0 = sym (ap (λ (t : Bool). cond t 1 0) (none r)) in let z : 0 + 0 ≡ 0 = omega arith in z ∙ e);
  above = λ i j le lt. absurd (omega arith);
  looked = λ i k lt small inside. absurd (omega arith);
  left = λ i to lt copy. absurd (omega arith);
  late = λ i j to le lt copy. absurd (omega arith);
}
