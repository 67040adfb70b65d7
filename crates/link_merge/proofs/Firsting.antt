-- The first tag of each label that has a list, tag by tag.
use Rattle.std.proofs.Common.{arith, ◌≡◌, ◌≢◌, ℕ, zero, suc, ◌+◌, ◌<◌, inl, inr, Bool, true, false, cond, List, [], ◌∷◌, length, get_or, set, refl, ap, sym, ◌∙◌, subst, Option, Some, None, IsSome}
use Rattle.std.specs.List.{slice_get, slice_index_or}
use Rattle.std.proofs.lemmas.Bool.{cases_lt, false≢true}
use Rattle.std.proofs.lemmas.Bool.Decides.{eqb_tells}
use Rattle.core_tree.specs.declared.node.Unit.{Unit}
use Rattle.link_model.specs.declared.item.Item.{Item}
use Rattle.link_model.specs.Units.{list_at}
use Rattle.link_merge.specs.Counted.{FirstListed, FirstsUpTo, kept_first}

some_one : {X : Type 0} → {x y : X} → ◌≡◌ {A = Option X} (Some x) (Some y) → x ≡ y
some_one h = cc

set_here : {X : Type 0} (xs : List X) (i : ℕ) (v d : X) → i < length xs → get_or (set xs i v) i d ≡ v
set_here [] i v d lt = absurd (omega arith)
set_here (x ∷ xs) zero v d lt = refl
set_here (x ∷ xs) (suc i) v d lt = set_here xs i v d (omega arith)

set_other : {X : Type 0} (xs : List X) (i j : ℕ) (v d : X) → j ≢ i → get_or (set xs i v) j d ≡ get_or xs j d
set_other [] i j v d ne = refl
set_other (x ∷ xs) zero zero v d ne = absurd (ne refl)
set_other (x ∷ xs) zero (suc j) v d ne = refl
set_other (x ∷ xs) (suc i) zero v d ne = refl
set_other (x ∷ xs) (suc i) (suc j) v d ne = set_other xs i j v d (λ e. ne (ap suc e))

same_length : (xs : List (Option ℕ)) (i : ℕ) (v : Option ℕ) → length (set xs i v) ≡ length xs
same_length [] i v = refl
same_length (x ∷ xs) zero v = refl
same_length (x ∷ xs) (suc i) v = ap suc (same_length xs i v)

module _ (units : List Unit) (tags : List Item) (leaders : List ℕ) where
  pub firsts_none : (list : List (Option ℕ)) → length list ≡ length tags → ((k : ℕ) (d : Option ℕ) → k < length list → slice_index_or list k d ≡ None) → FirstsUpTo units tags leaders 0 list
  firsts_none list all none = record {
    all = all;
    each = λ l lt. subst (FirstListed units tags leaders 0 l) (sym (none l None (omega arith))) (λ j less h. absurd (omega arith));
  }

  later : (i l : ℕ) (a : Item) (o : Option ℕ) → slice_get tags i ≡ Some a → (get_or leaders i 0 ≡ l → IsSome (list_at units a) → ⊥) → FirstListed units tags leaders i l o → FirstListed units tags leaders (i + 1) l o
  later i l a (Some h) at other first = record { within = (let w = first.within in omega arith); listed = first.listed; first = first.first }
  later i l a None at other first = λ j lt listed. elim (cases_lt j i) [
    | inl less ↦ first j less listed
    | inr ge ↦
        let same : j ≡ i = omega arith in
        let one : listed.tag ≡ a = some_one (sym listed.tag_is ∙ (ap (slice_get tags) same ∙ at)) in
        other (ap (λ k. get_or leaders k 0) (sym same) ∙ listed.leader) (subst (λ (x : Item). IsSome (list_at units x)) one listed.list)
  ]

  kept_none : (has : Bool) (i : ℕ) → has ≡ true → kept_first None has i ≡ Some i
  kept_none has i e = ap (λ b. cond b (Some i) None) e

  -- what is kept for the leader of the next tag
  here : (i l : ℕ) (a : Item) (has : Bool) (o : Option ℕ) → slice_get tags i ≡ Some a → get_or leaders i 0 ≡ l → (has ≡ true → IsSome (list_at units a)) → (IsSome (list_at units a) → has ≡ true) → FirstListed units tags leaders i l o
      → FirstListed units tags leaders (i + 1) l (kept_first o has i)
  here i l a has (Some h) at lead has_it back first = record { within = (let w = first.within in omega arith); listed = first.listed; first = first.first }
  here i l a true None at lead has_it back first = record {
    within = omega arith;
    listed = record { tag = a; tag_is = at; leader = lead; list = has_it refl };
    first = λ j listed. elim (cases_lt j i) [ inl less ↦ absurd (first j less listed) | inr ge ↦ ge ];
  }
  here i l a false None at lead has_it back first = later i l a None at (λ e some. false≢true (back some)) first

  pub firsts_more : (i : ℕ) (a : Item) (has : Bool) (old now : List (Option ℕ)) → FirstsUpTo units tags leaders i old → slice_get tags i ≡ Some a → get_or leaders i 0 < length tags → (has ≡ true → IsSome (list_at units a)) → (IsSome (list_at units a) → has ≡ true)
      → now ≡ set old (get_or leaders i 0) (kept_first (slice_index_or old (get_or leaders i 0) None) has i) → FirstsUpTo units tags leaders (i + 1) now
  firsts_more i a has old now h at within has_it back is =
      let l = get_or leaders i 0 in
      let v = kept_first (slice_index_or old l None) has i in
      let all = h.all in
      record {
        all = ap length is ∙ (same_length old l v ∙ h.all);
        each = λ k lt. elim (eqb_tells k l) [
          | inl same ↦
              let place : slice_index_or now k None ≡ v = ap (λ xs. slice_index_or xs k None) is ∙ (ap (λ n. slice_index_or (set old l v) n None) same.1 ∙ set_here old l v None (omega arith)) in
              subst (λ n. FirstListed units tags leaders (i + 1) n (slice_index_or now k None)) (sym same.1)
              (subst (FirstListed units tags leaders (i + 1) l) (sym place) (here i l a has (slice_index_or old l None) at refl has_it back (h.each l within)))
          | inr other ↦
              let place : slice_index_or now k None ≡ slice_index_or old k None = ap (λ xs. slice_index_or xs k None) is ∙ set_other old l k v None other.1 in
              subst (FirstListed units tags leaders (i + 1) k) (sym place) (later i k a (slice_index_or old k None) at (λ e some. other.1 (sym e)) (h.each k lt))
        ];
      }
