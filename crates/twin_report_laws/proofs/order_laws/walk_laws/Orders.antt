-- Lists in the order of keys: what is put in its place one by one, and that there is one such list.
use Rattle.std.proofs.Common.{◌≡◌, ◌∙◌, ◌↔◌, ◌⊎◌, inl, inr, ℕ, zero, suc, List, [], ◌∷◌, map, Some, slice_get, Contains, refl, sym, ap, subst}
use Rattle.std.specs.Cmp.{IsTotalOrder}
use Rattle.std.specs.List.{AllByRecursion}
use Rattle.std.specs.List.Sorted.{IsStrictlySortedBy}
use Rattle.std.specs.Ordering.{match_ordering, ordering_reverse}
use Rattle.std.specs.declared.cmp.Ordering.{Ordering}
use Rattle.std.specs.declared.cmp.Ordering.TheVariants.{Less, Equal, Greater}
use Rattle.std.specs.BTreeMap.{insert_entry}
use Rattle.std.proofs.lemmas.Cmp.{tied_itself}
use Rattle.std.proofs.lemmas.Option.{none-some, same_Some}
use Rattle.sol_model.proofs.Members.{Contains-at, at_Contains}
use Rattle.twin_report_laws.specs.order_laws.walk_laws.Ordered.{IsOrdered, IsShown}

less_equal : ◌≡◌ {A = Ordering} Less Equal → ⊥
less_equal h = cc

module _ {X : Type 0} where
  abbrev pub Member : List X → X → Type 0
  Member [] x = ⊥
  Member (y ∷ rest) x = (y ≡ x) ⊎ Member rest x

  slice_member : (xs : List X) (i : ℕ) (x : X) → slice_get xs i ≡ Some x → Member xs x
  slice_member [] i x at = absurd (none-some x at)
  slice_member (y ∷ rest) zero x at = inl (same_Some y x at)
  slice_member (y ∷ rest) (suc i) x at = inr (slice_member rest i x at)

  member_slice : (xs : List X) (x : X) → Member xs x → (i : ℕ) × (slice_get xs i ≡ Some x)
  member_slice [] x h = absurd h
  member_slice (y ∷ rest) x (inl same) = (0, ap (λ (z : X). Some z) same)
  member_slice (y ∷ rest) x (inr more) = (let w = member_slice rest x more in (suc w.0, w.1))

  pub contains_member : (xs : List X) (x : X) → Contains xs x → Member xs x
  contains_member xs x h = (let w = at_Contains xs x h in slice_member xs w.0 x w.2)

  pub member_contains : (xs : List X) (x : X) → Member xs x → Contains xs x
  member_contains xs x h = (let w = member_slice xs x h in Contains-at xs w.0 x w.1)

-- one key, one entry
abbrev pub IsKeyed : {K X : Type 0} → List (K × X) → Type 0
IsKeyed {K} {X} entries = (a b : K × X) → Member entries a → Member entries b → a.0 ≡ b.0 → a ≡ b

module _ {K X : Type 0} (cmp : K → K → Ordering) where
  abbrev pub Behind : K → List (K × X) → Type 0
  Behind k es = AllByRecursion (λ (y : K). cmp k y ≡ Less) (map (λ (e : K × X). e.0) es)

  abbrev pub Rises : List (K × X) → Type 0
  Rises es = IsStrictlySortedBy cmp (map (λ (e : K × X). e.0) es)

  pub cons_rises : (e : K × X) (es : List (K × X)) → Behind e.0 es → Rises es → Rises (e ∷ es)
  unfolding IsStrictlySortedBy
  cons_rises e es behind rises = (behind, rises)

  head_rises : (e : K × X) (es : List (K × X)) → Rises (e ∷ es) → Behind e.0 es
  unfolding IsStrictlySortedBy
  head_rises e es rises = rises.0

  tail_rises : (e : K × X) (es : List (K × X)) → Rises (e ∷ es) → Rises es
  unfolding IsStrictlySortedBy
  tail_rises e es rises = rises.1

  member_behind : (k : K) (es : List (K × X)) (e : K × X) → Behind k es → Member es e → cmp k e.0 ≡ Less
  member_behind k [] e h there = absurd there
  member_behind k (d ∷ es) e h (inl same) = subst (λ (x : K × X). cmp k x.0 ≡ Less) same h.0
  member_behind k (d ∷ es) e h (inr more) = member_behind k es e h.1 more

  -- all of these put in their places among those
  abbrev pub put_all : List (K × X) → List (K × X) → List (K × X)
  put_all done [] = done
  put_all done (m ∷ rest) = put_all (insert_entry cmp done m.0 m.1) rest

pub nil_rises : {K : Type 0} (X : Type 0) (cmp : K → K → Ordering) → Rises {X = X} cmp []
unfolding IsStrictlySortedBy
nil_rises X cmp = tt

irreflexive : {K : Type 0} (cmp : K → K → Ordering) (total : IsTotalOrder cmp) (k : K) → cmp k k ≡ Less → ⊥
irreflexive cmp total k h = less_equal (sym h ∙ tied_itself total k)

module _ {K X : Type 0} (cmp : K → K → Ordering) (total : IsTotalOrder cmp) where
  further : (k j : K) (es : List (K × X)) → cmp k j ≡ Less → Behind cmp j es → Behind cmp k es
  further k j [] lt h = tt
  further k j (e ∷ es) lt h = (total.trans k j e.0 lt h.0, further k j es lt h.1)

  -- ---- one list
  pub unique : (xs ys : List (K × X)) → Rises cmp xs → Rises cmp ys → ((e : K × X) → Member xs e → Member ys e) → ((e : K × X) → Member ys e → Member xs e) → xs ≡ ys
  unique [] [] r s there back = refl
  unique [] (y ∷ ys) r s there back = absurd (back y (inl refl))
  unique (x ∷ xs) [] r s there back = absurd (there x (inl refl))
  unique (x ∷ xs) (y ∷ ys) r s there back =
      let same = heads (there x (inl refl)) (back y (inl refl)) in
      ap (λ (a : K × X). a ∷ xs) same
      ∙ ap (λ (l : List (K × X)). y ∷ l) (unique xs ys (tail_rises cmp x xs r) (tail_rises cmp y ys s) (λ e m. behind_x same e m (there e (inr m))) (λ e m. behind_y same e m (back e (inr m))))
    where
      heads : Member (y ∷ ys) x → Member (x ∷ xs) y → x ≡ y
      heads (inl same) q = sym same
      heads (inr more) (inl same) = same
      heads (inr more) (inr other) =
          absurd (irreflexive cmp total x.0 (total.trans x.0 y.0 x.0 (member_behind cmp x.0 xs y (head_rises cmp x xs r) other) (member_behind cmp y.0 ys x (head_rises cmp y ys s) more)))

      behind_x : x ≡ y → (e : K × X) → Member xs e → Member (y ∷ ys) e → Member ys e
      behind_x same e m (inl here) = absurd (irreflexive cmp total x.0 (subst (λ (z : K × X). cmp x.0 z.0 ≡ Less) (sym here ∙ sym same) (member_behind cmp x.0 xs e (head_rises cmp x xs r) m)))
      behind_x same e m (inr more) = more

      behind_y : x ≡ y → (e : K × X) → Member ys e → Member (x ∷ xs) e → Member xs e
      behind_y same e m (inl here) = absurd (irreflexive cmp total y.0 (subst (λ (z : K × X). cmp y.0 z.0 ≡ Less) (sym here ∙ same) (member_behind cmp y.0 ys e (head_rises cmp y ys s) m)))
      behind_y same e m (inr more) = more

  -- a list that rises, of exactly these entries, is the one
  pub ordered_is : (Has : K × X → Type 0) (entries : List (K × X)) → Rises cmp entries → ((e : K × X) → Member entries e ↔ Has e) → (list : List (K × X)) → (list ≡ entries) ↔ IsOrdered cmp Has list
  ordered_is Has entries rises each list = (
    (λ is.
        subst (λ (l : List (K × X)). IsOrdered cmp Has l) (sym is)
        (record { rises = rises; same = λ e. (λ c. (each e).0 (contains_member entries e c), λ h. member_contains entries e ((each e).1 h)) })),
    λ o.
        unique list entries o.rises rises (λ e m. (each e).1 ((o.same e).0 (member_contains list e m))) (λ e m. contains_member list e ((o.same e).1 ((each e).0 m))),
  )

  -- and so is what is shown of its entries
  pub shown_is : (Has : K × X → Type 0) (entries : List (K × X)) → Rises cmp entries → ((e : K × X) → Member entries e ↔ Has e) → {Z : Type 0} (shown : K × X → Z) (list : List Z)
      → (list ≡ map shown entries) ↔ IsShown cmp Has shown list
  shown_is Has entries rises each shown list = (
    (λ is. record { entries = entries; ordered = (ordered_is Has entries rises each entries).0 refl; are = is }),
    λ o. o.are ∙ ap (map shown) ((ordered_is Has entries rises each o.entries).1 o.ordered),
  )

  -- ---- entries put in their places
  module _ (k : K) (v : X) where
    put_behind : (j : K) (es : List (K × X)) → cmp j k ≡ Less → Behind cmp j es → Behind cmp j (insert_entry cmp es k v)
    put_behind j [] lt h = (lt, tt)
    put_behind j (e ∷ es) lt h = by (cmp k e.0) (put_behind j es lt h.1)
      where
        by : (o : Ordering) → Behind cmp j (insert_entry cmp es k v) → Behind cmp j (match_ordering o ((k, v) ∷ e ∷ es) ((e.0, v) ∷ es) (e ∷ insert_entry cmp es k v))
        by Less later = (lt, h)
        by Equal later = (h.0, h.1)
        by Greater later = (h.0, later)

    put_rises : (es : List (K × X)) → Rises cmp es → Rises cmp (insert_entry cmp es k v)
    put_rises [] r = cons_rises cmp (k, v) [] tt (nil_rises X cmp)
    put_rises (e ∷ es) r = by (cmp k e.0) refl (put_rises es (tail_rises cmp e es r))
      where
        by : (o : Ordering) → cmp k e.0 ≡ o → Rises cmp (insert_entry cmp es k v) → Rises cmp (match_ordering o ((k, v) ∷ e ∷ es) ((e.0, v) ∷ es) (e ∷ insert_entry cmp es k v))
        by Less is later = cons_rises cmp (k, v) (e ∷ es) (is, further k e.0 es is (head_rises cmp e es r)) r
        by Equal is later = cons_rises cmp (e.0, v) es (head_rises cmp e es r) (tail_rises cmp e es r)
        by Greater is later = cons_rises cmp e (insert_entry cmp es k v) (put_behind e.0 es (total.antisymm e.0 k ∙ ap ordering_reverse is) (head_rises cmp e es r)) later

  all_rise : (done ms : List (K × X)) → Rises cmp done → Rises cmp (put_all cmp done ms)
  all_rise done [] r = r
  all_rise done (m ∷ rest) r = all_rise (insert_entry cmp done m.0 m.1) rest (put_rises m.0 m.1 done r)

  module _ (exact : (a b : K) → cmp a b ≡ Equal → a ≡ b) where
    -- keys that aren't told apart are one
    keyed_as : (m e : K × X) → cmp m.0 e.0 ≡ Equal → (e.0, m.1) ≡ m
    keyed_as m e is = ap (λ (j : K). (j, m.1)) (sym (exact m.0 e.0 is))

    put_there : (m : K × X) (es : List (K × X)) → Member (insert_entry cmp es m.0 m.1) m
    put_there m [] = inl refl
    put_there m (e ∷ es) = by (cmp m.0 e.0) refl (put_there m es)
      where
        by : (o : Ordering) → cmp m.0 e.0 ≡ o → Member (insert_entry cmp es m.0 m.1) m → Member (match_ordering o (m ∷ e ∷ es) ((e.0, m.1) ∷ es) (e ∷ insert_entry cmp es m.0 m.1)) m
        by Less is later = inl refl
        by Equal is later = inl (keyed_as m e is)
        by Greater is later = inr later

    put_kept : (m : K × X) (es : List (K × X)) (x : K × X) → ((e : K × X) → Member es e → m.0 ≡ e.0 → m ≡ e) → Member es x → Member (insert_entry cmp es m.0 m.1) x
    put_kept m [] x own h = absurd h
    put_kept m (e ∷ es) x own h = by (cmp m.0 e.0) refl h (λ more. put_kept m es x (λ d among. own d (inr among)) more)
      where
        by : (o : Ordering) → cmp m.0 e.0 ≡ o → Member (e ∷ es) x → (Member es x → Member (insert_entry cmp es m.0 m.1) x) → Member (match_ordering o (m ∷ e ∷ es) ((e.0, m.1) ∷ es) (e ∷ insert_entry cmp es m.0 m.1)) x
        by Less is there later = inr there
        by Equal is (inl here) later = inl (keyed_as m e is ∙ (own e (inl refl) (exact m.0 e.0 is) ∙ here))
        by Equal is (inr more) later = inr more
        by Greater is (inl here) later = inl here
        by Greater is (inr more) later = inr (later more)

    put_from : (m : K × X) (es : List (K × X)) (x : K × X) → Member (insert_entry cmp es m.0 m.1) x → (m ≡ x) ⊎ Member es x
    put_from m [] x (inl same) = inl same
    put_from m [] x (inr none) = absurd none
    put_from m (e ∷ es) x h = by (cmp m.0 e.0) refl h (λ more. put_from m es x more)
      where
        by : (o : Ordering) → cmp m.0 e.0 ≡ o → Member (match_ordering o (m ∷ e ∷ es) ((e.0, m.1) ∷ es) (e ∷ insert_entry cmp es m.0 m.1)) x
            → (Member (insert_entry cmp es m.0 m.1) x → (m ≡ x) ⊎ Member es x) → (m ≡ x) ⊎ Member (e ∷ es) x
        by Less is (inl same) later = inl same
        by Less is (inr more) later = inr more
        by Equal is (inl here) later = inl (sym (keyed_as m e is) ∙ here)
        by Equal is (inr more) later = inr (inr more)
        by Greater is (inl here) later = inr (inl here)
        by Greater is (inr more) later = elim (later more) [ inl same ↦ inl same | inr kept ↦ inr (inr kept) ]

    abbrev Either : List (K × X) → List (K × X) → K × X → Type 0
    Either done ms x = Member done x ⊎ Member ms x

    moved : (done : List (K × X)) (m : K × X) (rest : List (K × X)) (x : K × X) → Either (insert_entry cmp done m.0 m.1) rest x → Either done (m ∷ rest) x
    moved done m rest x (inl put) = elim (put_from m done x put) [ inl same ↦ inr (inl same) | inr kept ↦ inl kept ]
    moved done m rest x (inr later) = inr (inr later)

    all_from : (done ms : List (K × X)) (x : K × X) → Member (put_all cmp done ms) x → Either done ms x
    all_from done [] x h = inl h
    all_from done (m ∷ rest) x h = moved done m rest x (all_from (insert_entry cmp done m.0 m.1) rest x h)

    all_there : (done ms : List (K × X)) (x : K × X) → ((a b : K × X) → Either done ms a → Either done ms b → a.0 ≡ b.0 → a ≡ b) → Either done ms x → Member (put_all cmp done ms) x
    all_there done [] x keyed (inl there) = there
    all_there done [] x keyed (inr none) = absurd none
    all_there done (m ∷ rest) x keyed h = all_there (insert_entry cmp done m.0 m.1) rest x (λ a b p q same. keyed a b (moved done m rest a p) (moved done m rest b q) same) (by h)
      where
        by : Either done (m ∷ rest) x → Either (insert_entry cmp done m.0 m.1) rest x
        by (inl kept) = inl (put_kept m done x (λ e among same. keyed m e (inr (inl refl)) (inl among) same) kept)
        by (inr (inl same)) = inl (subst (Member (insert_entry cmp done m.0 m.1)) same (put_there m done))
        by (inr (inr later)) = inr later

    beside_none : (es : List (K × X)) (x : K × X) → Either [] es x → Member es x
    beside_none es x (inl none) = absurd none
    beside_none es x (inr there) = there

    -- entries put in their places one by one are the list of exactly these entries in the order of their keys
    pub put_is : (entries : List (K × X)) → IsKeyed entries → (list : List (K × X)) → (list ≡ put_all cmp [] entries) ↔ IsOrdered cmp (Contains entries) list
    put_is entries keyed list =
        ordered_is (Contains entries) (put_all cmp [] entries) (all_rise [] entries (nil_rises X cmp))
        (λ e. (
          (λ m. member_contains entries e (beside_none entries e (all_from [] entries e m))),
          λ c. all_there [] entries e (λ a b p q same. keyed a b (beside_none entries a p) (beside_none entries b q) same) (inr (contains_member entries e c)),
        )) list
