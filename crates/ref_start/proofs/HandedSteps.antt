-- One pointer more was handed over, and its place is kept.
use Rattle.std.proofs.Common.{arith, ◌≡◌, ℕ, zero, suc, ◌+◌, ◌-◌, ◌<◌, ◌≤◌, Bool, true, false, cond, ◌&&◌, List, [], ◌∷◌, ◌++◌, Option, Some, None, length, map, filter, get_or, slice_get, nat_eq, refl, ap, sym, subst, ◌∙◌, inl, inr, length-append}
use Rattle.std.specs.Option.{option_map, unwrap_or}
use Rattle.std.proofs.Math.Seq.{get_or-append_seam}
use Rattle.std.proofs.lemmas.Bool.{cases_lt, eqb-true, eq-eqb, false≢true}
use Rattle.std.proofs.lemmas.List.{append-nil, map-append, get_or_append_left, get_or-append_right}
use Rattle.std.proofs.lemmas.List.Elements.{filter-append}
use Rattle.std.proofs.lemmas.Option.{slice_get-get_or, unwrap_or-slice_get}
use Rattle.c_types.specs.declared.term.TypeId.{TypeId}
use Rattle.c_types.specs.Trees.{Ctype, PointerTo}
use Rattle.c_types.specs.Table.{Table, type_of, IsFirstOf}
use Rattle.obj_space.specs.Found.{kept_at}
use Rattle.ref_cells.specs.declared.cells.Cell.{Cell}
use Rattle.ref_cells.specs.declared.cells.Cell.TheVariants.{Null}
use Rattle.ref_cells.specs.declared.cells.Value.{Value}
use Rattle.ref_cells.specs.declared.instance.Instance.{Instance}
use Rattle.ref_elements.specs.Types.{same_type}
use Rattle.ref_elements.proofs.SameTypes.{type_refl, type_true}
use Rattle.ref_start.specs.declared.handed.HandedPlaces.{HandedPlaces}
use Rattle.ref_start.specs.Entries.{Given, handed_as}
use Rattle.ref_start.specs.Handed.{count_at, cell_at, kept_cell, ArePlaces, cells_for, IsOneMore}
use Rattle.ref_start.proofs.EntrySteps.{none_past}

-- Lists with one more.

pub seam : {X : Type 0} (xs : List X) (y : X) → slice_get (xs ++ y ∷ []) (length xs) ≡ Some y
seam xs y =
    slice_get-get_or (xs ++ y ∷ []) (length xs) y (omega (arith, length-append xs (y ∷ [])))
    ∙ ap (λ z. Some z) (get_or-append_seam xs y [] y)

before_seam : {X : Type 0} (xs : List X) (y : X) (k : ℕ) → k < length xs → slice_get xs k ≡ slice_get (xs ++ y ∷ []) k
before_seam xs y k lt =
    slice_get-get_or xs k y lt
    ∙ (ap (λ z. Some z) (sym (get_or_append_left xs (y ∷ []) y k lt))
    ∙ sym (slice_get-get_or (xs ++ y ∷ []) k y (omega (arith, lt, length-append xs (y ∷ [])))))

read_more : (handed : List (TypeId × Cell)) (e : TypeId × Cell) (at : ℕ) (c : Cell)
    → option_map (λ (x : TypeId × Cell). x.1) (slice_get handed at) ≡ Some c → option_map (λ (x : TypeId × Cell). x.1) (slice_get (handed ++ e ∷ []) at) ≡ Some c
read_more [] e at c h = cc
read_more (x ∷ xs) e zero c h = h
read_more (x ∷ xs) e (suc at) c h = read_more xs e at c h

cell_more : (handed : List (TypeId × Cell)) (e : TypeId × Cell) (o : Option ℕ) (c : Cell) → cell_at handed o ≡ Some c → cell_at (handed ++ e ∷ []) o ≡ Some c
cell_more handed e None c h = cc
cell_more handed e (Some at) c h = read_more handed e at c h

-- What was handed over under a type, of two lists.

pub as_both : (table : Table) (t : Ctype) (xs ys : List (TypeId × Cell)) → handed_as table t (xs ++ ys) ≡ handed_as table t xs ++ handed_as table t ys
as_both table t xs ys =
    let test : TypeId × Cell → Bool = λ e. same_type (type_of table e.0.0) t in
    ap (map (λ (e : TypeId × Cell). e.1)) (filter-append test xs ys) ∙ map-append (λ (e : TypeId × Cell). e.1) (filter test xs) (filter test ys)

first_one : (table : Table) (t : Ctype) (a b : ℕ) → IsFirstOf table t a → IsFirstOf table t b → a ≡ b
first_one table t a b x y = elim (cases_lt a b) [
  | inl less ↦ absurd (y.least a less x.same)
  | inr le ↦ elim (cases_lt b a) [ inl less ↦ absurd (x.least b less y.same) | inr ge ↦ omega arith ]
]

-- Places stay, and one comes, as to one type.

module _ (table : Table) (handed : List (TypeId × Cell)) (e : TypeId × Cell) (old : HandedPlaces) (h : ArePlaces table handed old) (to : Ctype) (id : ℕ)
    (is : IsFirstOf table (PointerTo to) id) where
  abbrev under : List (TypeId × Cell) → List Cell
  under list = handed_as table (PointerTo to) list

  by_test : (b : Bool) → same_type (type_of table e.0.0) (PointerTo to) ≡ b → under (handed ++ e ∷ []) ≡ under handed ++ cond b (e.1 ∷ []) []
  by_test b same = as_both table (PointerTo to) handed (e ∷ []) ∙ ap (λ xs. under handed ++ xs) (alone b same)
    where
      alone : (b : Bool) → same_type (type_of table e.0.0) (PointerTo to) ≡ b → under (e ∷ []) ≡ cond b (e.1 ∷ []) []
      alone true same = ap (λ (x : Bool). map (λ (x : TypeId × Cell). x.1) (cond x (e ∷ []) [])) same
      alone false same = ap (λ (x : Bool). map (λ (x : TypeId × Cell). x.1) (cond x (e ∷ []) [])) same

  stays : (k : ℕ) (o : Option ℕ) → k < length (under handed) → o ≡ kept_at old.places id k → cell_at (handed ++ e ∷ []) o ≡ slice_get (under handed) k
  stays k o lt same =
      let here : slice_get (under handed) k ≡ Some (get_or (under handed) k Null) = slice_get-get_or (under handed) k Null lt in
      ap (cell_at (handed ++ e ∷ [])) same
      ∙ (cell_more handed e (kept_at old.places id k) (get_or (under handed) k Null) (h.cells to id k is lt ∙ here) ∙ sym here)

  -- the pointer is of another type
  module _ (is_other : same_type (type_of table e.0.0) (PointerTo to) ≡ false) where
    other_list : under (handed ++ e ∷ []) ≡ under handed
    other_list = by_test false is_other ∙ append-nil (under handed)

    pub other_counts : (count : ℕ) → count ≡ count_at old.counts id → count ≡ length (under (handed ++ e ∷ []))
    other_counts count same = same ∙ (h.counts to id is ∙ sym (ap length other_list))

    pub other_cells : (k : ℕ) (o : Option ℕ) → k < length (under (handed ++ e ∷ [])) → o ≡ kept_at old.places id k
        → cell_at (handed ++ e ∷ []) o ≡ slice_get (under (handed ++ e ∷ [])) k
    other_cells k o lt same =
        stays k o (omega (arith, lt, ap length other_list)) same ∙ sym (ap (λ (xs : List Cell). slice_get xs k) other_list)

  -- it is of this one
  module _ (is_own : same_type (type_of table e.0.0) (PointerTo to) ≡ true) where
    own_list : under (handed ++ e ∷ []) ≡ under handed ++ e.1 ∷ []
    own_list = by_test true is_own

    longer : length (under (handed ++ e ∷ [])) ≡ length (under handed) + 1
    longer = omega (arith, ap length own_list, length-append (under handed) (e.1 ∷ []))

    pub own_counts : (count : ℕ) → count ≡ count_at old.counts id + 1 → count ≡ length (under (handed ++ e ∷ []))
    own_counts count same = omega (arith, same, h.counts to id is, longer)

    pub own_cells : (k : ℕ) (o : Option ℕ) → k < length (under (handed ++ e ∷ []))
        → o ≡ cond (nat_eq (count_at old.counts id) k) (Some old.read) (kept_at old.places id k)
        → cell_at (handed ++ e ∷ []) o ≡ slice_get (under (handed ++ e ∷ [])) k
    own_cells k o lt is_by = by (nat_eq (count_at old.counts id) k) refl is_by
      where
        in_all : slice_get (under handed ++ e.1 ∷ []) k ≡ slice_get (under (handed ++ e ∷ [])) k
        in_all = sym (ap (λ (xs : List Cell). slice_get xs k) own_list)

        by : (b : Bool) → nat_eq (count_at old.counts id) k ≡ b → o ≡ cond b (Some old.read) (kept_at old.places id k)
            → cell_at (handed ++ e ∷ []) o ≡ slice_get (under (handed ++ e ∷ [])) k
        by true same o_is =
            let last : length (under handed) ≡ k = sym (h.counts to id is) ∙ eqb-true (count_at old.counts id) k same in
            ap (cell_at (handed ++ e ∷ [])) (o_is ∙ ap (λ (at : ℕ). Some at) h.read)
            ∙ (ap (option_map (λ (x : TypeId × Cell). x.1)) (seam handed e)
            ∙ (sym (seam (under handed) e.1) ∙ (ap (slice_get (under handed ++ e.1 ∷ [])) last ∙ in_all)))
        by false same o_is =
            let apart : count_at old.counts id ≡ k → ⊥ = λ eq. false≢true (sym same ∙ eq-eqb (count_at old.counts id) k eq) in
            let less : k < length (under handed) = below k (length (under handed)) (omega (arith, lt, longer)) (λ eq. apart (h.counts to id is ∙ sym eq)) in
            stays k o less o_is ∙ (before_seam (under handed) e.1 k less ∙ in_all)
          where
            below : (a n : ℕ) → a < n + 1 → (a ≡ n → ⊥) → a < n
            below a n lt apart = elim (cases_lt a n) [ inl less ↦ less | inr more ↦ absurd (apart (omega arith)) ]

module _ (table : Table) (handed : List (TypeId × Cell)) (e : TypeId × Cell) (old : HandedPlaces) (h : ArePlaces table handed old) where
  one_longer : length (handed ++ e ∷ []) ≡ length handed + 1
  one_longer = omega (arith, length-append handed (e ∷ []))

  -- a pointer's type that isn't the table's is nobody's
  pub past_kept : length table.terms ≤ e.0.0 → ArePlaces table (handed ++ e ∷ []) (record old { read = old.read + 1 })
  past_kept past = record {
    read = omega (arith, h.read, one_longer);
    counts = λ to id is. other_counts table handed e old h to id is (apart to) (count_at old.counts id) refl;
    cells = λ to id k is lt. other_cells table handed e old h to id is (apart to) k (kept_at old.places id k) lt refl;
  }
    where
      apart : (to : Ctype) → same_type (type_of table e.0.0) (PointerTo to) ≡ false
      apart to = sym (none_past table e.0.0 (PointerTo to) to past refl)

  -- the place of another pointer is kept for the first id of its type
  module _ (first : ℕ) (mid : HandedPlaces) (f : IsFirstOf table (type_of table e.0.0) first) (m : IsOneMore first old mid) where
    module _ (to : Ctype) (id : ℕ) (is : IsFirstOf table (PointerTo to) id) where
      module _ (is_own : same_type (type_of table e.0.0) (PointerTo to) ≡ true) where
        same_first : first ≡ id
        same_first =
            first_one table (PointerTo to) first id
            (subst (λ (t : Ctype). IsFirstOf table t first) (type_true (type_of table e.0.0) (PointerTo to) is_own) f) is

        own : IsOneMore id old mid
        own = subst (λ (x : ℕ). IsOneMore x old mid) same_first m

        this : nat_eq id id ≡ true
        this = eq-eqb id id refl

        yes_counts : count_at mid.counts id ≡ count_at old.counts id + 1
        yes_counts = own.counts id ∙ ap (λ (b : Bool). cond b (count_at old.counts id + 1) (count_at old.counts id)) this

        yes_places : (k : ℕ) → kept_at mid.places id k ≡ cond (nat_eq (count_at old.counts id) k) (Some old.read) (kept_at old.places id k)
        yes_places k = own.places id k ∙ ap (λ (b : Bool). cond (b && nat_eq (count_at old.counts id) k) (Some old.read) (kept_at old.places id k)) this

      module _ (is_other : same_type (type_of table e.0.0) (PointerTo to) ≡ false) where
        other_first : nat_eq first id ≡ false
        other_first = by (nat_eq first id) refl
          where
            by : (b : Bool) → nat_eq first id ≡ b → b ≡ false
            by false same = refl
            by true same =
                let one : type_of table e.0.0 ≡ PointerTo to = sym f.same ∙ (ap (type_of table) (eqb-true first id same) ∙ is.same) in
                absurd (false≢true (sym is_other ∙ (ap (λ (t : Ctype). same_type t (PointerTo to)) one ∙ type_refl (PointerTo to))))

        no_counts : count_at mid.counts id ≡ count_at old.counts id
        no_counts = m.counts id ∙ ap (λ (b : Bool). cond b (count_at old.counts first + 1) (count_at old.counts id)) other_first

        no_places : (k : ℕ) → kept_at mid.places id k ≡ kept_at old.places id k
        no_places k = m.places id k ∙ ap (λ (b : Bool). cond (b && nat_eq (count_at old.counts first) k) (Some old.read) (kept_at old.places id k)) other_first

      counts_by : (b : Bool) → same_type (type_of table e.0.0) (PointerTo to) ≡ b → count_at mid.counts id ≡ length (handed_as table (PointerTo to) (handed ++ e ∷ []))
      counts_by true is_own = own_counts table handed e old h to id is is_own (count_at mid.counts id) (yes_counts is_own)
      counts_by false is_other = other_counts table handed e old h to id is is_other (count_at mid.counts id) (no_counts is_other)

      cells_by : (k : ℕ) → k < length (handed_as table (PointerTo to) (handed ++ e ∷ [])) → (b : Bool) → same_type (type_of table e.0.0) (PointerTo to) ≡ b
          → cell_at (handed ++ e ∷ []) (kept_at mid.places id k) ≡ slice_get (handed_as table (PointerTo to) (handed ++ e ∷ [])) k
      cells_by k lt true is_own = own_cells table handed e old h to id is is_own k (kept_at mid.places id k) lt (yes_places is_own k)
      cells_by k lt false is_other = other_cells table handed e old h to id is is_other k (kept_at mid.places id k) lt (no_places is_other k)

    pub more_kept : ArePlaces table (handed ++ e ∷ []) (record mid { read = mid.read + 1 })
    more_kept = record {
      read = omega (arith, h.read, m.read, one_longer);
      counts = λ to id is. counts_by to id is (same_type (type_of table e.0.0) (PointerTo to)) refl;
      cells = λ to id k is lt. cells_by to id is k lt (same_type (type_of table e.0.0) (PointerTo to)) refl;
    }

-- nothing was handed over
pub nothing_kept : (table : Table) (kept : HandedPlaces) → kept.read ≡ 0 → ((id : ℕ) → count_at kept.counts id ≡ 0) → ArePlaces table [] kept
nothing_kept table kept read none = record {
  read = read;
  counts = λ to id is. none id;
  cells = λ to id k is lt. absurd (omega (arith, lt));
}

pub nothing_given : (before : List (TypeId × Cell)) (fresh : List Instance) (handed : List (TypeId × Cell)) (arguments : List Value) → fresh ≡ [] → handed ≡ [] → arguments ≡ []
    → ◌≡◌ {A = Given} (record { fresh = fresh; handed = before ++ handed; arguments = arguments }) (record { fresh = []; handed = before; arguments = [] })
nothing_given before fresh handed arguments f l a =
    ap (λ (x : List Instance). let given : Given = record { fresh = x; handed = before ++ handed; arguments = arguments } in given) f
    ∙ (ap (λ (x : List (TypeId × Cell)). let given : Given = record { fresh = []; handed = x; arguments = arguments } in given)
    (ap (λ (x : List (TypeId × Cell)). before ++ x) l ∙ append-nil before)
    ∙ ap (λ (x : List Value). let given : Given = record { fresh = []; handed = before; arguments = x } in given) a)

-- How many there are under a type, and which.

module _ (table : Table) (ty first : ℕ) (to : Ctype) (pointer : type_of table ty ≡ PointerTo to) (f : IsFirstOf table (type_of table ty) first)
    (before own : List (TypeId × Cell)) (kept more : HandedPlaces) (h : ArePlaces table before kept) (g : ArePlaces table own more) where
  is_first : IsFirstOf table (PointerTo to) first
  is_first = subst (λ (t : Ctype). IsFirstOf table t first) pointer f

  abbrev of : List (TypeId × Cell) → List Cell
  of list = handed_as table (PointerTo to) list

  in_two : cells_for table ty before own ≡ of before ++ of own
  in_two = ap (λ (t : Ctype). handed_as table t (before ++ own)) pointer ∙ as_both table (PointerTo to) before own

  pub counted : count_at kept.counts first + count_at more.counts first ≡ length (cells_for table ty before own)
  counted = omega (arith, h.counts to first is_first, g.counts to first is_first, ap length in_two, length-append (of before) (of own))

  kept_there : (list : List (TypeId × Cell)) (places : HandedPlaces) → ArePlaces table list places → (k : ℕ) → k < length (of list)
      → kept_cell list places first k ≡ get_or (of list) k Null
  kept_there list places p k lt = ap (λ (o : Option Cell). unwrap_or o Null) (p.cells to first k is_first lt) ∙ unwrap_or-slice_get (of list) k Null

  pub chosen_before : (k : ℕ) → k < count_at kept.counts first → kept_cell before kept first k ≡ get_or (cells_for table ty before own) k Null
  chosen_before k lt =
      let less : k < length (of before) = omega (arith, lt, h.counts to first is_first) in
      kept_there before kept h k less
      ∙ (sym (get_or_append_left (of before) (of own) Null k less) ∙ sym (ap (λ (xs : List Cell). get_or xs k Null) in_two))

  pub chosen_own : (k : ℕ) → count_at kept.counts first ≤ k → k < length (cells_for table ty before own)
      → kept_cell own more first (k - count_at kept.counts first) ≡ get_or (cells_for table ty before own) k Null
  chosen_own k le lt =
      let count : length (of before) ≡ count_at kept.counts first = sym (h.counts to first is_first) in
      let less : k - count_at kept.counts first < length (of own) =
      omega (arith, le, lt, count, ap length in_two, length-append (of before) (of own)) in
      kept_there own more g (k - count_at kept.counts first) less
      ∙ (sym (get_or-append_right (of before) (of own) (count_at kept.counts first) k Null count le)
      ∙ sym (ap (λ (xs : List Cell). get_or xs k Null) in_two))
