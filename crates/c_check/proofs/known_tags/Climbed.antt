-- Which nodes stand under one, by the parents.
use Rattle.std.proofs.Common.{arith, ◌≡◌, ◌∙◌, ℕ, zero, suc, ◌+◌, ◌<◌, ◌≤◌, ◌||◌, ◌&&◌, Bool, true, false, nat_eq, nat_lt, List, [], ◌∷◌, Option, Some, None, IfSome, length, slice_get, inl, inr, refl, sym, ap, subst}
use Rattle.std.specs.Option.{is_some}
use Rattle.std.specs.Prelude.{◌==◌, if◌then◌else◌}
use Rattle.std.proofs.lemmas.Bool.{eqb-true, ltb-false}
use Rattle.std.proofs.lemmas.Bool.Decides.{eqb_tells}
use Rattle.c_grammar.specs.Terminals.{contains}
use Rattle.c_senses.specs.Tree.{Source, children_at, first_where, parent_of, all_nodes, above_within}
use Rattle.parsed_tree_laws.specs.sense_laws.Senses.{ChildrenFirst}
use Rattle.tree_reads.proofs.Marks.{parent_within}
use Rattle.c_check.specs.known_tags.Own.{is_under, flag_at, by_parent}

first_passes : (test : ℕ → Bool) (list : List ℕ) (x : ℕ) → first_where test list ≡ Some x → test x ≡ true
first_passes test [] x e = cc
first_passes test (y ∷ ys) x e = by (test y) refl e (first_passes test ys x)
  where
    by : (b : Bool) → test y ≡ b → (if b then Some y else first_where test ys) ≡ Some x → (first_where test ys ≡ Some x → test x ≡ true) → test x ≡ true
    by true at e rest = let same : y ≡ x = cc in subst (λ (z : ℕ). test z ≡ true) same at
    by false at e rest = rest e

contains_at : (list : List ℕ) (x : ℕ) → contains list x ≡ true → (k : ℕ) × (slice_get list k ≡ Some x)
contains_at [] x e = cc
contains_at (y ∷ ys) x e = by (nat_eq y x) refl e (contains_at ys x)
  where
    by : (b : Bool) → nat_eq y x ≡ b → (b || contains ys x) ≡ true → (contains ys x ≡ true → (k : ℕ) × (slice_get ys k ≡ Some x)) → (k : ℕ) × (slice_get (y ∷ ys) k ≡ Some x)
    by true at e rest = (0, ap Some (eqb-true y x at))
    by false at e rest = let (k, there) = rest e in (suc k, there)

module _ (s : Source) (ordered : ChildrenFirst s) where
  parent_larger : (i p : ℕ) → parent_of s i ≡ Some p → i < p
  parent_larger i p e =
      let (k, at) = contains_at (children_at s p) i (first_passes (λ q. contains (children_at s q) i) (all_nodes s) p e) in
      ordered p k i at

  parent_inside : (i p : ℕ) → parent_of s i ≡ Some p → p < length s.nodes
  parent_inside i p e = subst (λ (o : Option ℕ). IfSome o (λ (q : ℕ). q < length s.nodes)) e (parent_within s.nodes i)

  module _ (test : ℕ → Bool) where
    above_nothing : (m : ℕ) → above_within s test m None ≡ None
    above_nothing zero = refl
    above_nothing (suc m) = refl

    -- so many levels are enough
    same_levels : (m p : ℕ) (o : Option ℕ) → parent_of s p ≡ o → length s.nodes ≤ p + 1 + m → above_within s test (suc m) o ≡ above_within s test m o
    same_levels m p None e h = sym (above_nothing m)
    same_levels zero p (Some q) e h = let larger = parent_larger p q e in let inside = parent_inside p q e in absurd (omega arith)
    same_levels (suc m) p (Some q) e h =
        let larger = parent_larger p q e in
        ap (λ (o : Option ℕ). if test q then Some q else o) (same_levels m q (parent_of s q) refl (omega arith))

  module _ (top : ℕ) where
    abbrev above : Option ℕ → Bool
    above None = false
    above (Some p) = (p == top) || is_under s top p

    under_step : (i : ℕ) (o : Option ℕ) → parent_of s i ≡ o → is_under s top i ≡ above o
    under_step i None e = ap (λ (o : Option ℕ). is_some (above_within s (λ (p : ℕ). p == top) (length s.nodes) o)) e ∙ ap is_some (above_nothing (λ (p : ℕ). p == top) (length s.nodes))
    under_step i (Some p) e =
        ap (λ (o : Option ℕ). is_some (above_within s (λ (q : ℕ). q == top) (length s.nodes) o)) e ∙ by (length s.nodes) refl (parent_inside i p e)
      where
        chosen : (b : Bool) (o : Option ℕ) → is_some (if b then Some p else o) ≡ (b || is_some o)
        chosen true o = refl
        chosen false o = refl

        by : (n : ℕ) → length s.nodes ≡ n → p < n → is_some (above_within s (λ (q : ℕ). q == top) n (Some p)) ≡ ((p == top) || is_some (above_within s (λ (q : ℕ). q == top) n (parent_of s p)))
        by zero is h = absurd (omega arith)
        by (suc n) is h =
            let same : above_within s (λ (q : ℕ). q == top) (suc n) (parent_of s p) ≡ above_within s (λ (q : ℕ). q == top) n (parent_of s p) = same_levels (λ (q : ℕ). q == top) n p (parent_of s p) refl (omega arith) in
            chosen (p == top) (above_within s (λ (q : ℕ). q == top) n (parent_of s p)) ∙ ap (λ (o : Option ℕ). (p == top) || is_some o) (sym same)

    -- nothing from the node on stands under it
    none_above : (m i : ℕ) (o : Option ℕ) → parent_of s i ≡ o → top ≤ i → above_within s (λ (q : ℕ). q == top) m o ≡ None
    none_above m i None e h = above_nothing (λ (q : ℕ). q == top) m
    none_above zero i (Some p) e h = refl
    none_above (suc m) i (Some p) e h =
        let larger = parent_larger i p e in
        let other : (p == top) ≡ false = differs in
        ap (λ (b : Bool). if b then Some p else above_within s (λ (q : ℕ). q == top) m (parent_of s p)) other ∙ none_above m p (parent_of s p) refl (omega arith)
      where
        differs : (p == top) ≡ false
        differs = elim (eqb_tells p top) [
          | inl same ↦ (let larger = parent_larger i p e in let q = same.1 in absurd (omega arith))
          | inr other ↦ other.0
        ]

    pub not_under : (i : ℕ) → top ≤ i → is_under s top i ≡ false
    not_under i h = ap is_some (none_above (length s.nodes) i (parent_of s i) refl h)

    -- by the flags of the nodes behind one
    pub flags_step : (flags : List Bool) (i : ℕ) → ((j : ℕ) → i < j → flag_at flags j ≡ is_under s top j) → by_parent top flags (parent_of s i) ≡ is_under s top i
    flags_step flags i known = by (parent_of s i) refl ∙ sym (under_step i (parent_of s i) refl)
      where
        by : (o : Option ℕ) → parent_of s i ≡ o → by_parent top flags o ≡ above o
        by None e = refl
        by (Some p) e = ap (λ (b : Bool). (p == top) || b) (within (nat_lt p top) refl)
          where
            within : (b : Bool) → nat_lt p top ≡ b → (b && flag_at flags p) ≡ is_under s top p
            within true at = known p (parent_larger i p e)
            within false at = sym (not_under p (below at))
              where
                below : nat_lt p top ≡ false → top ≤ p
                below f = omega (arith, ltb-false p top f)

-- past all flags
pub past_false : (flags : List Bool) (i : ℕ) → length flags ≤ i → flag_at flags i ≡ false
past_false [] i h = refl
past_false (f ∷ flags) zero h = absurd (omega arith)
past_false (f ∷ flags) (suc i) h = past_false flags i (omega arith)
