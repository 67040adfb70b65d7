-- What is kept.
use Rattle.std.proofs.Common.{arith, ◌≡◌, ◌∙◌, ℕ, zero, suc, ◌+◌, ◌-◌, ◌<◌, ◌≤◌, ◌⊎◌, inl, inr, Bool, false, List, [], ◌∷◌, ◌++◌, append-nil, length, length-append, get_or, slice_get, Option, Some, None, refl, sym, ap, subst}
use Rattle.std.proofs.lemmas.Bool.{false≢true}
use Rattle.std.proofs.lemmas.Option.{slice_get_within, slice_get_read, get_or_from_slice_get}
use Rattle.c_types.specs.Table.{Table, type_of, members_in, extent_in}
use Rattle.core_tree.specs.declared.node.Node.{Node}
use Rattle.core_tree.specs.declared.node.Unit.{Unit}
use Rattle.core_tree.specs.Typed.{trees_of}
use Rattle.core_tree.specs.Range.{child_in, Under, here, below}
use Rattle.core_nodes.specs.PassedOn.{InOrder}
use Rattle.core_nodes.specs.Standing.{core_at, parts_in, Builds}
use Rattle.core_nodes.specs.kept_nodes.Marked.{ChildIn, marked, AreMarked}
use Rattle.core_nodes.specs.kept_nodes.Copied.{tree_of, AreCopied}
use Rattle.core_nodes.specs.kept_nodes.Keeps.{Keeps, AllUnder}
use Rattle.core_nodes.proofs.kept_nodes.Copying.{tree_before, child_before}

core_tree : (u : Unit) (i : ℕ) → i < length u.nodes.items → core_at u i ≡ tree_of u.types u.nodes.items i
core_tree u i lt = tree_before u [] i lt ∙ ap (λ (l : List Node). tree_of u.types l i) (append-nil u.nodes.items)

-- the node that a number names
pub number_read : (numbers : List ℕ) (i r : ℕ) → i < length numbers → r ≡ get_or numbers i r → r ≡ get_or numbers i 0
number_read numbers i r lt e = sym (get_or_from_slice_get numbers i r 0 (slice_get_read numbers (length numbers) i r refl lt e))

le_or : (a b : ℕ) → (a ≤ b) ⊎ (b < a)
le_or zero b = inl (omega arith)
le_or (suc a) zero = inr (omega arith)
le_or (suc a) (suc b) = elim (le_or a b) [ inl p ↦ inl (omega arith) | inr p ↦ inr (omega arith) ]

module _ (u0 u1 u2 : Unit) (rest : List Node) (from : ℕ) (types : u1.types ≡ u0.types) (entities : u1.entities.items ≡ u0.entities.items) (whole : u1.nodes.items ++ rest ≡ u0.nodes.items) (ef : from ≡ length u1.nodes.items) (b : Builds u1 u2) where
  tree_same : (i : ℕ) → i < length u0.nodes.items → tree_of u1.types (u1.nodes.items ++ rest) i ≡ core_at u0 i
  tree_same i lt =
      ap (λ (t : Table). tree_of t (u1.nodes.items ++ rest) i) types ∙ (ap (λ (l : List Node). tree_of u0.types l i) whole ∙ sym (core_tree u0 i lt))

  long : length u0.nodes.items ≡ from + length rest
  long = sym (ap length whole) ∙ (length-append u1.nodes.items rest ∙ ap (λ (n : ℕ). n + length rest) (sym ef))

  pub keeps_before : Keeps from u0 u2
  keeps_before = record {
    more = let m : length u1.nodes.items ≤ length u2.nodes.items = b.more in omega (arith, ef);
    cores = λ i lt. b.cores i (omega (arith, ef)) ∙ (tree_before u1 rest i (omega (arith, ef)) ∙ tree_same i (omega (arith, long)));
    terms = subst (λ (t : Table). length t.terms ≤ length u2.types.terms) types b.terms;
    types = subst (λ (t : Table). (id : ℕ) → id < length t.terms → type_of u2.types id ≡ type_of t id) types b.types;
    tags = b.tags ∙ ap (λ (t : Table). t.tags) types;
    parts = λ tag. b.parts tag ∙ ap (λ (t : Table). parts_in t (members_in t tag)) types;
    extents = λ x. b.extents x ∙ ap (λ (t : Table). extent_in t x) types;
    entities = b.entities ∙ entities;
  }

  module _ (top : ℕ) (marks marks' : List Bool) (numbers : List ℕ) (le : from ≤ top) (lt : top < length u0.nodes.items) (em : marks' ≡ marks) (on : AreMarked u0.nodes.items from top marks) (copied : AreCopied u1.types (u1.nodes.items ++ rest) from marks' (length rest) numbers u2) (r : ℕ) (er : r ≡ get_or numbers (top - from) 0) where
    few : top - from < length rest
    few = omega (arith, long)

    pub tree_kept : core_at u2 r ≡ core_at u0 top
    tree_kept =
        let same : from + (top - from) ≡ top = omega arith in
        ap (core_at u2) er
        ∙ (copied.trees (top - from) few (subst (λ (m : List Bool). marked m (top - from)) (sym em) on.highest)
        ∙ (ap (tree_of u1.types (u1.nodes.items ++ rest)) same ∙ tree_same top lt))

    past_none : (m : List Bool) (k : ℕ) → length m ≤ k → get_or m k false ≡ false
    past_none [] k h = refl
    past_none (x ∷ m) zero h = absurd (omega arith)
    past_none (x ∷ m) (suc k) h = past_none m k (omega arith)

    marked_within : (k : ℕ) → marked marks k → k < length rest
    marked_within k h = by_size (length marks) refl
      where
        by_size : (n : ℕ) → n ≡ length marks → k < length rest
        by_size n e = elim (le_or n k) [
          | inl p ↦ absurd (false≢true (sym (past_none marks k (omega (arith, e, p))) ∙ h))
          | inr p ↦ omega (arith, on.long, long, e, p)
        ]

    parent_of : (n : ℕ) → from ≤ n → n < length u2.nodes.items → (n ≡ r) ⊎ ((p : ℕ) × ChildIn u2.nodes.items p n)
    parent_of n ge h =
        let s = copied.sources n ge h in
        let here_on : marked marks s.0 = subst (λ (m : List Bool). marked m s.0) em s.2 in
        elim (on.reached s.0 here_on) [
          | inl e ↦ let same : s.0 ≡ top - from = omega (arith, e) in inl (sym s.3 ∙ (ap (λ (j : ℕ). get_or numbers j 0) same ∙ sym er))
          | inr p ↦
              let old = subst (λ (l : List Node). ChildIn l (from + p.0) (from + s.0)) (sym whole) p.2 in
              let there = copied.links p.0 (from + s.0) (marked_within p.0 p.1) (subst (λ (m : List Bool). marked m p.0) (sym em) p.1) (omega arith) old in
              let back : from + s.0 - from ≡ s.0 = omega arith in
              inr (get_or numbers p.0 0, subst (λ (i : ℕ). ChildIn u2.nodes.items (get_or numbers p.0 0) i) (ap (λ (j : ℕ). get_or numbers j 0) back ∙ s.3) there)
        ]

    parent_within : (p n q : ℕ) (o : Option Node) → slice_get u2.nodes.items p ≡ o → child_in o q ≡ Some n → p < length u2.nodes.items
    parent_within p n q None e h = cc
    parent_within p n q (Some x) e h = slice_get_within u2.nodes.items p x e

    under_within : InOrder u2.types u2.nodes.items → (fuel n : ℕ) → length u2.nodes.items ≤ n + fuel → from ≤ n → n < length u2.nodes.items → Under (trees_of u2) r n
    under_within order zero n f ge h = absurd (omega arith)
    under_within order (suc fuel) n f ge h =
        elim (parent_of n ge h) [
          | inl e ↦ subst (λ (k : ℕ). Under (trees_of u2) r k) (sym e) here
          | inr p ↦
              let before : n < p.0 = child_before u2.types u2.nodes.items order p.0 n p.1 in
              let there : p.0 < length u2.nodes.items = parent_within p.0 n p.1.0 (slice_get u2.nodes.items p.0) refl p.1.1 in
              below (under_within order fuel p.0 (omega arith) (omega arith) there) p.1
        ]

    pub all_under : InOrder u2.types u2.nodes.items → AllUnder u2 from r
    all_under order n ge h = under_within order (length u2.nodes.items) n (omega arith) ge h
