-- Marks, one after another.
use Rattle.std.proofs.Common.{arith, ◌≡◌, ◌∙◌, ℕ, zero, suc, ◌+◌, ◌-◌, ◌<◌, ◌≤◌, inl, inr, Bool, true, false, List, length, get_or, slice_get, Some, refl, sym, ap, subst}
use Rattle.std.proofs.lemmas.Bool.{false≢true}
use Rattle.std.proofs.lemmas.Bool.Decides.{eqb_tells}
use Rattle.std.proofs.lemmas.List.{get_or-set_same, get_or-set_other}
use Rattle.std.proofs.lemmas.Option.{slice_get-get_or, slice_get_read, get_or_from_slice_get}
use Rattle.std.proofs.Math.ListN.{set, length-set, replicate}
use Rattle.core_tree.specs.declared.node.Node.{Node}
use Rattle.core_tree.specs.Range.{child_in}
use Rattle.core_nodes.specs.kept_nodes.Marked.{ChildrenFirst, marked, IsAmong, Marks, IsClosedAt, IsReached}

pub none_yet : (from : ℕ) (marks : List Bool) (children : List ℕ) → Marks from marks marks children 0
none_yet from marks children = record { long = refl; kept = λ k h. h; all = λ j lt le. absurd (omega arith); only = λ k h. inl h }

among_more : (child : ℕ) (children : List ℕ) (i : ℕ) → IsAmong child children i → IsAmong child children (i + 1)
among_more child children i h = (h.0, omega (arith, h.1), h.2)

-- a child that is to be marked
module _ (from : ℕ) (old new : List Bool) (children : List ℕ) (i : ℕ) (here : Marks from old new children i) where
  module _ (le : from ≤ get_or children i 0) (within : get_or children i 0 - from < length new) where
    stays : (k : ℕ) → marked new k → marked (set new (get_or children i 0 - from) true) k
    stays k h =
        elim (eqb_tells k (get_or children i 0 - from)) [
          | inl p ↦ subst (λ (n : ℕ). marked (set new (get_or children i 0 - from) true) n) (sym p.1) (get_or-set_same new (get_or children i 0 - from) true false within)
          | inr p ↦ get_or-set_other new (get_or children i 0 - from) k true false p.1 ∙ h
        ]

    pub one_marked : Marks from old (set new (get_or children i 0 - from) true) children (i + 1)
    one_marked = record {
      long = length-set new (get_or children i 0 - from) true ∙ here.long;
      kept = λ k h. stays k (here.kept k h);
      all = λ j lt ge. elim (eqb_tells j i) [
        | inl p ↦ subst (λ (n : ℕ). marked (set new (get_or children i 0 - from) true) (get_or children n 0 - from)) (sym p.1) (get_or-set_same new (get_or children i 0 - from) true false within)
        | inr p ↦ stays (get_or children j 0 - from) (here.all j (omega (arith, p.1)) ge)
      ];
      only = λ k h. elim (eqb_tells k (get_or children i 0 - from)) [
        | inl p ↦ inr (i, omega arith, omega (arith, p.1))
        | inr p ↦ elim (here.only k (sym (get_or-set_other new (get_or children i 0 - from) k true false p.1) ∙ h)) [
          | inl q ↦ inl q
          | inr q ↦ inr (among_more (from + k) children i q)
        ]
      ];
    }

  pub one_passed : get_or children i 0 < from → Marks from old new children (i + 1)
  one_passed lt = record {
    long = here.long;
    kept = here.kept;
    all = λ j le ge. elim (eqb_tells j i) [
      | inl p ↦ let same : get_or children j 0 ≡ get_or children i 0 = ap (λ (n : ℕ). get_or children n 0) p.1 in absurd (omega arith)
      | inr p ↦ here.all j (omega (arith, p.1)) ge
    ];
    only = λ k h. elim (here.only k h) [ inl q ↦ inl q | inr q ↦ inr (among_more (from + k) children i q) ];
  }

none_marked : (n k : ℕ) → get_or (replicate n false) k false ≡ false
none_marked zero k = refl
none_marked (suc n) zero = refl
none_marked (suc n) (suc k) = none_marked n k

-- the top alone is marked at first
pub top_alone : (nodes : List Node) (from top n : ℕ) → from ≤ top → top - from < n → (i : ℕ) → marked (set (replicate n false) (top - from) true) i → IsReached nodes from top (set (replicate n false) (top - from) true) i
top_alone nodes from top n le lt i h =
    elim (eqb_tells i (top - from)) [
      | inl p ↦ inl (omega (arith, p.1))
      | inr p ↦ absurd (false≢true (sym (none_marked n i) ∙ (sym (get_or-set_other (replicate n false) (top - from) i true false p.1) ∙ h)))
    ]

-- a marked node, whose children are marked
module _ (nodes : List Node) (from top : ℕ) (old new : List Bool) (i : ℕ) (node : Node) (order : ChildrenFirst nodes) (at : slice_get nodes (from + i) ≡ Some node) (on : marked old i) (m : Marks from old new node.children (length node.children)) where
  child_below : (k : ℕ) → IsAmong k node.children (length node.children) → k < from + i
  child_below k h =
      let lt : get_or node.children h.0 0 < from + i = order (from + i) node at h.0 0 h.1 in omega (arith, h.2)

  pub closed_more : (j : ℕ) → i ≤ j → (suc i ≤ j → IsClosedAt nodes from old j) → IsClosedAt nodes from new j
  closed_more j le before n e h k lt ge =
      elim (eqb_tells j i) [
        | inl p ↦
            let same : Some node ≡ Some n = sym at ∙ (ap (λ (x : ℕ). slice_get nodes (from + x)) (sym p.1) ∙ e) in
            let one : node ≡ n = cc in
            subst (λ (x : Node). (q : ℕ) → q < length x.children → from ≤ get_or x.children q 0 → marked new (get_or x.children q 0 - from)) one m.all k lt ge
        | inr p ↦ elim (m.only j h) [
          | inl q ↦ m.kept (get_or n.children k 0 - from) (before (omega (arith, p.1)) n e q k lt ge)
          | inr q ↦ let below : from + j < from + i = child_below (from + j) q in absurd (omega arith)
        ]
      ]

  pub reached_more : ((k : ℕ) → marked old k → IsReached nodes from top old k) → (k : ℕ) → marked new k → IsReached nodes from top new k
  reached_more before k h =
      elim (m.only k h) [
        | inl q ↦ elim (before k q) [ inl e ↦ inl e | inr p ↦ inr (p.0, m.kept p.0 p.1, p.2) ]
        | inr q ↦ inr (i, m.kept i on, (q.0, child_here q))
      ]
    where
      child_here : (q : IsAmong (from + k) node.children (length node.children)) → child_in (slice_get nodes (from + i)) q.0 ≡ Some (from + k)
      child_here q = ap (λ o. child_in o q.0) at ∙ (slice_get-get_or node.children q.0 0 q.1 ∙ ap Some q.2)

-- a node that isn't marked
pub closed_passed : (nodes : List Node) (from : ℕ) (marks : List Bool) (i j : ℕ) → get_or marks i false ≡ false → i ≤ j → (suc i ≤ j → IsClosedAt nodes from marks j) → IsClosedAt nodes from marks j
closed_passed nodes from marks i j off le before n e h k lt ge =
    elim (eqb_tells j i) [
      | inl p ↦ absurd (false≢true (sym off ∙ (ap (λ (x : ℕ). get_or marks x false) (sym p.1) ∙ h)))
      | inr p ↦ before (omega (arith, p.1)) n e h k lt ge
    ]

-- a mark that was read
pub mark_read : (marks : List Bool) (i : ℕ) (r : Bool) → i < length marks → r ≡ get_or marks i r → r ≡ true → marked marks i
mark_read marks i r lt e on = get_or_from_slice_get marks i r false (slice_get_read marks (length marks) i r refl lt e) ∙ on
