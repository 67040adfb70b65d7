-- What tokens make stands in the order of ranks.
use Rattle.std.proofs.Common.{arith, ◌≡◌, ◌∙◌, ◌+◌, ◌<◌, ◌≤◌, ◌⊎◌, ℕ, true, false, Bool, List, [], ◌∷◌, ◌++◌, length, refl, sym, ap, subst, inl, inr}
use Rattle.std.specs.Prelude.{if◌then◌else◌, nat_lt}
use Rattle.std.specs.declared.cmp.Ordering.{Ordering}
use Rattle.std.specs.declared.cmp.Ordering.TheVariants.{Less, Equal, Greater}
use Rattle.std.specs.Cmp.{nat_cmp_is}
use Rattle.std.specs.Ordering.{match_ordering, nat_cmp, ordering_then}
use Rattle.std.specs.BTreeMap.{insert_entry}
use Rattle.std.proofs.lemmas.Bool.{ltb-true, ltb-false}
use Rattle.core_tree.specs.declared.node.Program.{Program}
use Rattle.obj_made.specs.Made.{by_place, Made, in_order, made_in_order}
use Rattle.twin_report_laws.proofs.outcome_laws.twin_locations.Members.{Member}
use Rattle.twin_report_laws.proofs.outcome_laws.twin_locations.Made.{Below, below_more, Rise, put_below, put_from, all_made, whole, whole_rises}
use Rattle.twin_report_laws.specs.orders.Order.{MadeApart}
use Rattle.twin_report_laws.proofs.orders.Ranks.{Before, either_way}
use Rattle.twin_report_laws.proofs.orders.Matched.{After, InOrder, after_more}
use Rattle.twin_report_laws.proofs.orders.Entries.{Entry, Counts, counts, kind_of, rank, IsEntry, all_entries, one_maker}

-- ---- what an insertion compares
then_less : (a b : ℕ) (r : Ordering) → (a < b) ⊎ ((a ≡ b) × (r ≡ Less)) → ordering_then (nat_cmp a b) r ≡ Less
then_less a b r (inl h) = ap (λ (o : Ordering). ordering_then o r) (sym (nat_cmp_is a b Less h))
then_less a b r (inr h) = ap (λ (o : Ordering). ordering_then o r) (sym (nat_cmp_is a b Equal h.0)) ∙ h.1

then_greater : (a b : ℕ) (r : Ordering) → (b < a) ⊎ ((b ≡ a) × (r ≡ Greater)) → ordering_then (nat_cmp a b) r ≡ Greater
then_greater a b r (inl h) = ap (λ (o : Ordering). ordering_then o r) (sym (nat_cmp_is a b Greater h))
then_greater a b r (inr h) = ap (λ (o : Ordering). ordering_then o r) (sym (nat_cmp_is a b Equal (sym h.0))) ∙ h.1

or_step : {A B C : Type 0} → (B → C) → A ⊎ B → A ⊎ C
or_step f (inl a) = inl a
or_step f (inr b) = inr (f b)

-- which kind a number is of
abbrev IsOfKind : Counts → ℕ → Type 0
IsOfKind n a = ((kind_of n a ≡ 0) × (a < n.0)) ⊎ (((kind_of n a ≡ 1) × (n.0 ≤ a) × (a < n.0 + n.1)) ⊎ ((kind_of n a ≡ 2) × (n.0 + n.1 ≤ a)))

kind_is : (n : Counts) (a : ℕ) → IsOfKind n a
kind_is n a = by (nat_lt a n.0) refl (nat_lt a (n.0 + n.1)) refl
  where
    by : (c : Bool) → nat_lt a n.0 ≡ c → (d : Bool) → nat_lt a (n.0 + n.1) ≡ d → IsOfKind n a
    by true e d f = inl (ap (λ x. if x then 0 else (if nat_lt a (n.0 + n.1) then 1 else 2)) e, ltb-true a n.0 e)
    by false e true f =
        inr (inl (ap (λ x. if x then 0 else (if nat_lt a (n.0 + n.1) then 1 else 2)) e ∙ ap (λ x. if x then 1 else 2) f, ltb-false a n.0 e, ltb-true a (n.0 + n.1) f))
    by false e false f = inr (inr (ap (λ x. if x then 0 else (if nat_lt a (n.0 + n.1) then 1 else 2)) e ∙ ap (λ x. if x then 1 else 2) f, ltb-false a (n.0 + n.1) f))

kinds_apart : (n : Counts) (a b : ℕ) → kind_of n a < kind_of n b → a < b
kinds_apart n a b h = by (kind_is n a) (kind_is n b)
  where
    by : IsOfKind n a → IsOfKind n b → a < b
    by (inl x) (inl y) = (let i = x.0 in let j = y.0 in absurd (omega (arith, h, i, j)))
    by (inl x) (inr (inl y)) = (let i = x.1 in let j = y.1 in omega (arith, i, j))
    by (inl x) (inr (inr y)) = (let i = x.1 in let j = y.1 in omega (arith, i, j))
    by (inr (inl x)) (inl y) = (let i = x.0 in let j = y.0 in absurd (omega (arith, h, i, j)))
    by (inr (inl x)) (inr (inl y)) = (let i = x.0 in let j = y.0 in absurd (omega (arith, h, i, j)))
    by (inr (inl x)) (inr (inr y)) = (let i = x.2 in let j = y.1 in omega (arith, i, j))
    by (inr (inr x)) (inl y) = (let i = x.0 in let j = y.0 in absurd (omega (arith, h, i, j)))
    by (inr (inr x)) (inr (inl y)) = (let i = x.0 in let j = y.0 in absurd (omega (arith, h, i, j)))
    by (inr (inr x)) (inr (inr y)) = (let i = x.0 in let j = y.0 in absurd (omega (arith, h, i, j)))

last_less : (n : Counts) (a b : ℕ) → (kind_of n a < kind_of n b) ⊎ ((kind_of n a ≡ kind_of n b) × Before [] []) → nat_cmp a b ≡ Less
last_less n a b (inl h) = sym (nat_cmp_is a b Less (kinds_apart n a b h))
last_less n a b (inr h) = absurd h.1

last_greater : (n : Counts) (a b : ℕ) → (kind_of n b < kind_of n a) ⊎ ((kind_of n b ≡ kind_of n a) × Before [] []) → nat_cmp a b ≡ Greater
last_greater n a b (inl h) = sym (nat_cmp_is a b Greater (kinds_apart n b a h))
last_greater n a b (inr h) = absurd h.1

less_at : (n : Counts) (a b : Entry) → Before (rank n a) (rank n b) → by_place a.0 b.0 ≡ Less
less_at n a b h =
    then_less a.0.0 b.0.0 _ (or_step (λ x. (x.0, then_less a.0.1 b.0.1 _ (or_step (λ y. (y.0, then_less a.0.2 b.0.2 _ (or_step (λ z. (z.0, last_less n a.0.3 b.0.3 z.1)) y.1))) x.1))) h)

greater_at : (n : Counts) (a b : Entry) → Before (rank n b) (rank n a) → by_place a.0 b.0 ≡ Greater
greater_at n a b h =
    then_greater a.0.0 b.0.0 _ (or_step (λ x. (x.0, then_greater a.0.1 b.0.1 _ (or_step (λ y. (y.0, then_greater a.0.2 b.0.2 _ (or_step (λ z. (z.0, last_greater n a.0.3 b.0.3 z.1)) y.1))) x.1))) h)

-- ---- an insertion keeps the order
module _ (n : Counts) (m : Entry) where
  abbrev placed : Ordering → Entry → Made → Made
  placed q f fs = match_ordering q (m ∷ f ∷ fs) ((f.0, m.1) ∷ fs) (f ∷ insert_entry by_place fs m.0 m.1)

  put_after : (e : Entry) (es : Made) → Before (rank n e) (rank n m) → After (rank n) e es → After (rank n) e (insert_entry by_place es m.0 m.1)
  put_after e [] lt h = (lt, tt)
  put_after e (f ∷ fs) lt h = by (by_place m.0 f.0) (put_after e fs lt h.1)
    where
      by : (q : Ordering) → After (rank n) e (insert_entry by_place fs m.0 m.1) → After (rank n) e (placed q f fs)
      by Less later = (lt, h)
      by Equal later = (h.0, h.1)
      by Greater later = (h.0, later)

  put_in_order : (es : Made) → ((e : Entry) → Member es e → rank n m ≡ rank n e → ⊥) → InOrder (rank n) es → InOrder (rank n) (insert_entry by_place es m.0 m.1)
  put_in_order [] new h = (tt, tt)
  put_in_order (f ∷ fs) new h = elim (either_way (rank n m) (rank n f) tt) [
    | inl same ↦ absurd (new f (inl refl) same)
    | inr differ ↦ elim differ [
      | inl lt ↦ subst (λ (q : Ordering). InOrder (rank n) (placed q f fs)) (sym (less_at n m f lt)) ((lt, after_more (rank n) m f fs lt h.0), h)
      | inr gt ↦ subst (λ (q : Ordering). InOrder (rank n) (placed q f fs)) (sym (greater_at n m f gt)) (put_after f fs gt h.0, put_in_order fs (λ e among. new e (inr among)) h.1)
    ]
  ]

below_each : (k : ℕ) (done : Made) (e : Entry) → Below k done → Member done e → e.0.3 < k
below_each k [] e h there = absurd there
below_each k (m ∷ rest) e h (inl same) = subst (λ (x : Entry). x.0.3 < k) same h.0
below_each k (m ∷ rest) e h (inr more) = below_each k rest e h.1 more

module _ (p : Program) (apart : MadeApart p) where
  abbrev own_rank : Entry → List ℕ
  own_rank = rank (counts p)

  sorted : (k : ℕ) (done more : Made) → InOrder own_rank done → Below k done → Rise k more → ((e : Entry) → Member done e → IsEntry p e) → ((e : Entry) → Member more e → IsEntry p e) → InOrder own_rank (in_order done more)
  sorted k done [] ordered below rise old new = ordered
  sorted k done (m ∷ rest) ordered below rise old new =
      let here : Below m.0.3 done = below_more k m.0.3 done rise.0 below in
      let own : IsEntry p m = new m (inl refl) in
      sorted (m.0.3 + 1) (insert_entry by_place done m.0 m.1) rest (put_in_order (counts p) m done (stands here own) ordered)
      (put_below m.0 m.1 (m.0.3 + 1) done (omega arith) (below_more m.0.3 (m.0.3 + 1) done (omega arith) here)) rise.1
      (λ x there. elim (put_from m.0 m.1 done x here there) [ inl same ↦ subst (IsEntry p) same own | inr kept ↦ old x kept ])
      (λ x there. new x (inr there))
    where
      stands : Below m.0.3 done → IsEntry p m → (e : Entry) → Member done e → own_rank m ≡ own_rank e → ⊥
      stands here own e there same =
          let number = one_maker p apart m e own (old e there) same in
          let lt = below_each m.0.3 done e here there in
          omega (arith, number, lt)

  pub made_ordered : InOrder own_rank (made_in_order p)
  made_ordered =
      subst (InOrder own_rank) (sym (whole p))
      (sorted 0 [] (all_made p) tt tt (whole_rises p) (λ e none. absurd none) (all_entries p))
