-- The steps of giving classes.
use Rattle.std.proofs.Common.{◌≡◌, ◌⊎◌, ℕ, zero, suc, ◌+◌, ◌<◌, ◌≤◌, ◌&&◌, Bool, true, false, not, eqb, List, [], ◌∷◌, ◌++◌, Option, Some, None, length, get_or, set, Contains, refl, sym, ◌∙◌, ap, subst, inl, inr, arith, length-set, get_or-set_same, get_or-set_other}
use Rattle.std.specs.Option.{is_some}
use Rattle.std.proofs.lemmas.Bool.{eqb-true, eq-eqb, ne_eqb, cases_eq, cases_lt, cases_Bool, true≢false, and_from, and_parts, not_from_true, not_from_false}
use Rattle.std.proofs.lemmas.Option.{none-some, same_Some}
use Rattle.std.proofs.lemmas.List.Elements.{Contains-append_left, Contains-push, Contains-push_cases, All-contains}
use Rattle.sol_model.specs.declared.system.System.{System}
use Rattle.sol_model.specs.declared.system.Constraint.TheVariants.{Copy}
use Rattle.sol_model.specs.Systems.{IsValid, IsRow, IsConstraintValid}
use Rattle.row_share.specs.share_laws.Classes.{IsCopy, IsKept, Reaches, Follows, IsUndivided, AreTogether, AreClasses}
use Rattle.row_share.specs.share_laws.Orders.{IsOrder}
use Rattle.row_share.specs.share_laws.Gathered.{class_of, HasClass, IsClosedBack, IsNear, IsGathering, ArePartly, IsClassFor, AreFirst, unclassed}
use Rattle.row_share.proofs.share_laws.Members.{only_one, behind}
use Rattle.row_share.proofs.share_laws.EqualSets.{its_copy, its_adding}
use Rattle.row_share.proofs.share_laws.Searching.{reach_refl, reach_trans, reach_copy}

class_set : (classes : List (Option ℕ)) (row other class : ℕ) → row < length classes → (other ≡ row → ⊥) → class_of (set classes row (Some class)) other ≡ class_of classes other
class_set classes row other class lt apart = get_or-set_other classes row other (Some class) None apart

class_here : (classes : List (Option ℕ)) (row class : ℕ) → row < length classes → class_of (set classes row (Some class)) row ≡ Some class
class_here classes row class lt = get_or-set_same classes row (Some class) None lt

pub still_class : (classes : List (Option ℕ)) (row other class : ℕ) → row < length classes → HasClass classes other → HasClass (set classes row (Some class)) other
still_class classes row other class lt h = elim (cases_eq other row) [
  | inl same ↦ (class, ap (class_of (set classes row (Some class))) same ∙ class_here classes row class lt)
  | inr apart ↦ (h.0, class_set classes row other class lt apart ∙ h.1)
]

pub cases_class : (classes : List (Option ℕ)) (row : ℕ) → HasClass classes row ⊎ (class_of classes row ≡ None)
cases_class classes row = split (class_of classes row)
  where
    split : (o : Option ℕ) → ((class : ℕ) × (o ≡ Some class)) ⊎ (o ≡ None)
    split None = inr refl
    split (Some class) = inl (class, refl)

no_class : (classes : List (Option ℕ)) (row : ℕ) → HasClass classes row → class_of classes row ≡ None → ⊥
no_class classes row h e = none-some h.0 (sym e ∙ h.1)

module _ (S : System) (order : List ℕ) (is : IsOrder S order) (last class : ℕ) (inside : last < length order) (old : List (Option ℕ))
    (after : (i : ℕ) → last < i → i < length order → HasClass old (get_or order i 0)) (sized : length old ≡ S.rows) where
  root : ℕ
  root = get_or order last 0

  near_root : IsNear S order last (get_or order last 0)
  near_root = record {
    up = reach_refl S (get_or order last 0);
    place = last;
    within = omega arith;
    at = refl;
    down = λ j low high. (let e : last ≡ j = omega arith in subst (λ (k : ℕ). Reaches S (get_or order last 0) (get_or order k 0)) e (reach_refl S (get_or order last 0)));
  }

  pub gathering_begin : class_of old (get_or order last 0) ≡ None → IsClosedBack S old → IsGathering S order last class old (set old (get_or order last 0) (Some class)) (get_or order last 0 ∷ [])
  gathering_begin none closed =
      let r = get_or order last 0 in
      let lt : r < length old = (let k = is.known last inside in omega arith) in record {
        sized = length-set old r (Some class);
        each = λ row. elim (cases_eq row r) [
          | inl same ↦ inr (ap (class_of old) same ∙ none, ap (class_of (set old r (Some class))) same ∙ class_here old r class lt, subst (IsNear S order last) (sym same) near_root)
          | inr apart ↦ inl (class_set old r row class lt apart)
        ];
        begun = class_here old r class lt;
        waits = λ row h. subst (IsNear S order last) (sym (only_one r row h)) near_root;
        closed = λ from to copy h. elim (cases_eq to r) [
          | inl same ↦ inr (subst (Contains (r ∷ [])) (sym same) (0, omega arith, refl))
          | inr apart ↦ inl (still_class old r from class lt (closed from to copy (h.0, sym (class_set old r to class lt apart) ∙ h.1)))
        ];
      }

  -- a row that leads to a near one, and had no class, is near
  near_source : (x row : ℕ) → IsRow S x → IsCopy S x row → class_of old x ≡ None → IsNear S order last row → IsNear S order last x
  near_source x row known copy none near =
      let w = is.all x known in
      let low : w.0 ≤ last = elim (cases_lt last w.0) [
        | inl above ↦ absurd (no_class old x (subst (HasClass old) w.2 (after w.0 above w.1)) none)
        | inr below ↦ below
      ] in record {
        up = reach_trans S x row (get_or order last 0) (reach_copy S x row copy) near.up;
        place = w.0;
        within = low;
        at = w.2;
        down = λ j from_here to_last. elim (is.late w.0 j row from_here (omega arith) (subst (λ (y : ℕ). IsCopy S y row) (sym w.2) copy)) [
          | inl there ↦ (let k = there.0 in let le = there.1 in let p = near.place in let pl = near.within in
              let same : k ≡ p = is.once k p (omega arith) (omega arith) (there.2 ∙ sym near.at) in
              near.down j (omega arith) to_last)
          | inr reached ↦ reach_trans S (get_or order last 0) row (get_or order j 0)
              (subst (λ (y : ℕ). Reaches S (get_or order last 0) y) near.at (near.down near.place (omega arith) near.within)) reached
        ];
      }

  module _ (new : List (Option ℕ)) where
    -- a source of a waiting row gets the class, and waits
    pub gathering_mark : (row x : ℕ) (waiting : List ℕ) → IsGathering S order last class old new (row ∷ waiting) → IsRow S x → IsCopy S x row → class_of new x ≡ None
        → IsGathering S order last class old (set new x (Some class)) (row ∷ (waiting ++ x ∷ []))
    gathering_mark row x waiting g known copy none =
        let lt : x < length new = (let l = g.sized in omega arith) in
        let was : class_of old x ≡ None = elim (g.each x) [
          | inl same ↦ sym same ∙ none
          | inr got ↦ got.0
        ] in
        let near = near_source x row known copy was (g.waits row (0, omega arith, refl)) in record {
          sized = length-set new x (Some class) ∙ g.sized;
          each = λ r. elim (cases_eq r x) [
            | inl same ↦ inr (ap (class_of old) same ∙ was, ap (class_of (set new x (Some class))) same ∙ class_here new x class lt, subst (IsNear S order last) (sym same) near)
            | inr apart ↦ elim (g.each r) [
              | inl kept ↦ inl (class_set new x r class lt apart ∙ kept)
              | inr got ↦ inr (got.0, class_set new x r class lt apart ∙ got.1, got.2)
            ]
          ];
          begun = elim (cases_eq (get_or order last 0) x) [
            | inl same ↦ ap (class_of (set new x (Some class))) same ∙ class_here new x class lt
            | inr apart ↦ class_set new x (get_or order last 0) class lt apart ∙ g.begun
          ];
          waits = λ r h. elim (Contains-push_cases (row ∷ waiting) x r h) [
            | inl older ↦ g.waits r older
            | inr same ↦ subst (IsNear S order last) same near
          ];
          closed = λ from to edge h. elim (cases_eq to x) [
            | inl same ↦ inr (subst (Contains (row ∷ (waiting ++ x ∷ []))) (sym same) (Contains-push (row ∷ waiting) x))
            | inr apart ↦ elim (g.closed from to edge (h.0, sym (class_set new x to class lt apart) ∙ h.1)) [
              | inl has ↦ inl (still_class new x from class lt has)
              | inr waits ↦ inr (Contains-append_left (row ∷ waiting) (x ∷ []) to waits)
            ]
          ];
        }

    -- the row at the end of the list is taken off, to be gone through
    pub gathering_take : (row : ℕ) (waiting : List ℕ) → IsGathering S order last class old new (waiting ++ row ∷ []) → IsGathering S order last class old new (row ∷ waiting)
    gathering_take row waiting g = record {
      sized = g.sized;
      each = g.each;
      begun = g.begun;
      waits = λ r h. g.waits r (to_end r h);
      closed = λ from to edge h. elim (g.closed from to edge h) [
        | inl has ↦ inl has
        | inr waits ↦ inr (elim (Contains-push_cases waiting row to waits) [
          | inl older ↦ behind row waiting to older
          | inr same ↦ subst (Contains (row ∷ waiting)) same (0, omega arith, refl)
        ])
      ];
    }
      where
        to_end : (r : ℕ) → Contains (row ∷ waiting) r → Contains (waiting ++ row ∷ []) r
        to_end r (zero, lt, e) = subst (Contains (waiting ++ row ∷ [])) e (Contains-push waiting row)
        to_end r (suc k, lt, e) = Contains-append_left waiting (row ∷ []) r (k, omega arith, e)

    -- all that leads to the row has a class
    pub gathering_drop : (row : ℕ) (waiting : List ℕ) → IsGathering S order last class old new (row ∷ waiting) → ((x : ℕ) → IsCopy S x row → HasClass new x) → IsGathering S order last class old new waiting
    gathering_drop row waiting g sources = record {
      sized = g.sized;
      each = g.each;
      begun = g.begun;
      waits = λ r h. g.waits r (behind row waiting r h);
      closed = λ from to edge h. elim (g.closed from to edge h) [
        | inl has ↦ inl has
        | inr waits ↦ drop from to edge waits
      ];
    }
      where
        drop : (from to : ℕ) → IsCopy S from to → Contains (row ∷ waiting) to → HasClass new from ⊎ Contains waiting to
        drop from to edge (zero, lt, e) = inl (sources from (subst (λ (y : ℕ). IsCopy S from y) (sym e) edge))
        drop from to edge (suc k, lt, e) = inr (k, omega arith, e)

-- what reaches a row with a class has one
back_along : (S : System) (classes : List (Option ℕ)) → IsClosedBack S classes → (b a : ℕ) → Reaches S b a → HasClass classes a → HasClass classes b
back_along S classes closed b a path h = elim (cases_class classes b) [
  | inl has ↦ has
  | inr none ↦ absurd (true≢false (sym (path (λ r. not (is_some (class_of classes r))) kept (ap (λ (o : Option ℕ). not (is_some o)) none)) ∙ ap (λ (o : Option ℕ). not (is_some o)) h.1))
]
  where
    none_from : (o : Option ℕ) → not (is_some o) ≡ true → o ≡ None
    none_from None e = refl
    none_from (Some class) e = absurd (true≢false (sym e))

    kept : IsKept S (λ r. not (is_some (class_of classes r)))
    kept from to copy lacks = elim (cases_class classes to) [
      | inl has ↦ absurd (no_class classes from (closed from to copy has) (none_from (class_of classes from) lacks))
      | inr none ↦ ap (λ (o : Option ℕ). not (is_some o)) none
    ]

-- what reaches a row that follows another reaches that one
last_step : (S : System) (a row from : ℕ) → Reaches S a row → (a ≡ row → ⊥) → Follows S row from → Reaches S a from
last_step S a row from path apart follows set kept h = elim (cases_Bool (set from)) [
  | inl has ↦ has
  | inr lacks ↦ absurd (true≢false (sym ((and_parts (set row) (not (eqb row row)) (path (λ x. set x && not (eqb x row)) (smaller lacks) (and_from (set a) (not (eqb a row)) h (not_from_false (eqb a row) (ne_eqb a row apart))))).1) ∙ not_from_true (eqb row row) (eq-eqb row row refl)))
]
  where
    smaller : set from ≡ false → IsKept S (λ x. set x && not (eqb x row))
    smaller lacks x to copy here =
        let parts = and_parts (set x) (not (eqb x row)) here in
        and_from (set to) (not (eqb to row)) (kept x to copy parts.0) (not_from_false (eqb to row) (ne_eqb to row (λ e.
        let one = its_adding S row from follows (Copy x to) copy (eq-eqb to row e) in
        let same : x ≡ from = cc in
        true≢false (sym parts.0 ∙ ap set same ∙ lacks))))

same_from : (S : System) (row a b : ℕ) → Follows S row a → Follows S row b → a ≡ b
same_from S row a b f g = let e = sym f.alone ∙ g.alone in cc

module _ (S : System) (order : List ℕ) (last class : ℕ) (old new : List (Option ℕ)) (partly : ArePartly S old) (known_root : IsRow S (get_or order last 0))
    (none : class_of old (get_or order last 0) ≡ None) (chosen : IsClassFor S old (get_or order last 0) class) (g : IsGathering S order last class old new []) where
  closed_new : IsClosedBack S new
  closed_new from to copy h = elim (g.closed from to copy h) [
    | inl has ↦ has
    | inr waits ↦ absurd (let lt = waits.1 in omega arith)
  ]

  kept_class : (row : ℕ) → HasClass old row → class_of new row ≡ class_of old row
  kept_class row h = elim (g.each row) [
    | inl same ↦ same
    | inr got ↦ absurd (no_class old row h got.0)
  ]

  root_down : (row : ℕ) → IsNear S order last row → Reaches S (get_or order last 0) row
  root_down row near = subst (λ (y : ℕ). Reaches S (get_or order last 0) y) near.at (near.down near.place (omega arith) near.within)

  chosen_known : IsRow S class × AreTogether S (get_or order last 0) class
  chosen_known = elim chosen [
    | inl own ↦ (subst (IsRow S) (sym own.0) known_root, (λ set undivided. ap set (sym own.0)))
    | inr taken ↦ (let k = partly.known taken.0 class taken.2 in (k.0, (λ set undivided. undivided.followed (get_or order last 0) taken.0 taken.1 ∙ k.1 set undivided)))
  ]

  known_new : (row c : ℕ) → class_of new row ≡ Some c → IsRow S c × AreTogether S row c
  known_new row c h = elim (g.each row) [
    | inl same ↦ partly.known row c (sym same ∙ h)
    | inr got ↦ (let is : class ≡ c = same_Some class c (sym got.1 ∙ h) in
        subst (λ (d : ℕ). IsRow S d × AreTogether S row d) is
        (chosen_known.0, (λ set undivided. undivided.cycles row (get_or order last 0) got.2.up (root_down row got.2) ∙ chosen_known.1 set undivided)))
  ]

  cycles_new : (a b : ℕ) → Reaches S a b → Reaches S b a → HasClass new a → class_of new a ≡ class_of new b
  cycles_new a b there back h = elim (g.each a) [
    | inl same ↦ (let had : HasClass old a = (h.0, sym same ∙ h.1) in
        let e = partly.cycles a b there back had in
        same ∙ e ∙ sym (kept_class b (had.0, sym e ∙ had.1)))
    | inr got ↦ (let hb = back_along S new closed_new b a back h in
        elim (g.each b) [
          | inl same ↦ (let had : HasClass old b = (hb.0, sym same ∙ hb.1) in
              absurd (none-some hb.0 (sym got.0 ∙ sym (partly.cycles b a back there had) ∙ had.1)))
          | inr also ↦ got.1 ∙ sym also.1
        ])
  ]

  followed_new : (row from : ℕ) → Follows S row from → HasClass new row → class_of new row ≡ class_of new from
  followed_new row from follows h = elim (g.each row) [
    | inl same ↦ (let had : HasClass old row = (h.0, sym same ∙ h.1) in
        let e = partly.followed row from follows had in
        same ∙ e ∙ sym (kept_class from (had.0, sym e ∙ had.1)))
    | inr got ↦ elim (cases_eq (get_or order last 0) row) [
      | inl is ↦ elim chosen [
        | inl own ↦ (let hf = closed_new from row (its_copy S row from follows) h in
            let lacked = own.1 from (subst (λ (y : ℕ). Follows S y from) (sym is) follows) in
            elim (g.each from) [
              | inl same ↦ absurd (none-some hf.0 (sym lacked ∙ sym same ∙ hf.1))
              | inr also ↦ got.1 ∙ sym also.1
            ])
        | inr taken ↦ (let one = same_from S row from taken.0 follows (subst (λ (y : ℕ). Follows S y taken.0) is taken.1) in
            got.1 ∙ sym (taken.2) ∙ sym (kept_class taken.0 (class, taken.2)) ∙ sym (ap (class_of new) one))
      ]
      | inr apart ↦ (let r = get_or order last 0 in
          let down = last_step S r row from (root_down row got.2) apart follows in
          let up = reach_trans S from row r (reach_copy S from row (its_copy S row from follows)) got.2.up in
          got.1 ∙ sym g.begun ∙ cycles_new r from down up (class, g.begun))
    ]
  ]

  -- a class more
  pub partly_more : ArePartly S new
  partly_more = record {
    sized = g.sized ∙ partly.sized;
    known = known_new;
    closed = closed_new;
    cycles = cycles_new;
    followed = followed_new;
  }

option_is : ℕ → Option ℕ → Bool
option_is class None = false
option_is class (Some other) = eqb other class

option_found : (class : ℕ) (o : Option ℕ) → option_is class o ≡ true → o ≡ Some class
unfolding option_is
option_found class None e = absurd (true≢false (sym e))
option_found class (Some other) e = ap Some (eqb-true other class e)

found_option : (class : ℕ) (o : Option ℕ) → o ≡ Some class → option_is class o ≡ true
unfolding option_is
found_option class None e = absurd (none-some class e)
found_option class (Some other) e = eq-eqb other class (same_Some other class e)

-- where all rows have classes, the first rows of classes are the smallest of theirs
pub classes_done : (S : System) (classes : List (Option ℕ)) (rows : List ℕ) → IsValid S → ArePartly S classes → ((row : ℕ) → IsRow S row → HasClass classes row) → AreFirst classes rows → AreClasses S rows
classes_done S classes rows valid partly all firsts = record {
  count = firsts.count ∙ partly.sized;
  classes = λ row known. (let size = partly.sized in
      let lt : row < length classes = omega arith in
      let s = firsts.same row lt in
      let own = all row known in record {
        known = (let le = s.0 in omega arith);
        together = λ set undivided. (partly.known row own.0 own.1).1 set undivided ∙ sym ((partly.known (get_or rows row 0) own.0 (s.1 ∙ own.1)).1 set undivided);
        smallest = λ other is together. firsts.first row other lt (omega arith)
            (option_found own.0 (class_of classes other) (sym (together (λ r. option_is own.0 (class_of classes r)) (undivided own.0)) ∙ found_option own.0 (class_of classes row) own.1) ∙ sym own.1);
      });
}
  where
    undivided : (c : ℕ) → IsUndivided S (λ r. option_is c (class_of classes r))
    undivided c = record {
      followed = λ row from follows. ap (option_is c) (partly.followed row from follows (all row (All-contains (IsConstraintValid S) S.constraints (Copy from row) valid.constraints (its_copy S row from follows)).1));
      cycles = λ a b there back. elim (cases_class classes a) [
        | inl has ↦ ap (option_is c) (partly.cycles a b there back has)
        | inr none ↦ elim (cases_class classes b) [
          | inl has ↦ ap (option_is c) (sym (partly.cycles b a back there has))
          | inr also ↦ ap (option_is c) (none ∙ sym also)
        ]
      ];
    }

-- one row more has a class
pub unclassed_set : (classes : List (Option ℕ)) (row class : ℕ) → row < length classes → class_of classes row ≡ None → unclassed (set classes row (Some class)) + 1 ≡ unclassed classes
unclassed_set [] row class lt e = absurd (omega arith)
unclassed_set (None ∷ classes) zero class lt e = let m = unclassed classes in let same : m + 1 ≡ 1 + m = omega arith in same
unclassed_set (Some other ∷ classes) zero class lt e = absurd (none-some other (sym e))
unclassed_set (Some other ∷ classes) (suc row) class lt e = unclassed_set classes row class (omega arith) e
unclassed_set (None ∷ classes) (suc row) class lt e =
    let r = unclassed_set classes row class (omega arith) e in let a = unclassed (set classes row (Some class)) in let b = unclassed classes in
    let same : 1 + a + 1 ≡ 1 + b = omega arith in same
