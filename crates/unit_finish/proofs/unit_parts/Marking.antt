-- Marks, one after another.
use Rattle.std.proofs.Common.{arith, ◌≡◌, ◌∙◌, ℕ, zero, suc, ◌+◌, ◌<◌, ◌≤◌, inl, inr, Bool, true, false, List, length, get_or, slice_get, Some, refl, sym, ap, subst}
use Rattle.std.proofs.lemmas.Bool.{false≢true}
use Rattle.std.proofs.lemmas.Bool.Decides.{eqb_tells}
use Rattle.std.proofs.lemmas.List.{get_or-set_same, get_or-set_other, get_or_past}
use Rattle.std.proofs.lemmas.Option.{slice_get-get_or, slice_get_read, get_or_from_slice_get}
use Rattle.std.proofs.Math.ListN.{set, length-set, replicate}
use Rattle.core_tree.specs.declared.node.Node.{Node}
use Rattle.core_tree.specs.Range.{child_in}
use Rattle.core_nodes.specs.kept_nodes.Marked.{ChildrenFirst, marked, IsAmong}
use Rattle.unit_finish.specs.unit_parts.Marked.{Marks, IsClosedAt, IsReached}

pub none_yet : (marks : List Bool) (list : List ℕ) → Marks marks marks list 0
none_yet marks list = record { long = refl; kept = λ k h. h; all = λ j lt. absurd (omega arith); only = λ k h. inl h }

among_more : (child : ℕ) (list : List ℕ) (i : ℕ) → IsAmong child list i → IsAmong child list (i + 1)
among_more child list i h = (h.0, omega (arith, h.1), h.2)

-- a node that is to be marked
module _ (old new : List Bool) (list : List ℕ) (i : ℕ) (here : Marks old new list i) (within : get_or list i 0 < length new) where
  stays : (k : ℕ) → marked new k → marked (set new (get_or list i 0) true) k
  stays k h =
      elim (eqb_tells k (get_or list i 0)) [
        | inl p ↦ subst (λ (n : ℕ). marked (set new (get_or list i 0) true) n) (sym p.1) (get_or-set_same new (get_or list i 0) true false within)
        | inr p ↦ get_or-set_other new (get_or list i 0) k true false p.1 ∙ h
      ]

  pub one_marked : Marks old (set new (get_or list i 0) true) list (i + 1)
  one_marked = record {
    long = length-set new (get_or list i 0) true ∙ here.long;
    kept = λ k h. stays k (here.kept k h);
    all = λ j lt. elim (eqb_tells j i) [
      | inl p ↦ subst (λ (n : ℕ). marked (set new (get_or list i 0) true) (get_or list n 0)) (sym p.1) (get_or-set_same new (get_or list i 0) true false within)
      | inr p ↦ stays (get_or list j 0) (here.all j (omega (arith, p.1)))
    ];
    only = λ k h. elim (eqb_tells k (get_or list i 0)) [
      | inl p ↦ inr (i, omega arith, sym p.1)
      | inr p ↦ elim (here.only k (sym (get_or-set_other new (get_or list i 0) k true false p.1) ∙ h)) [
        | inl q ↦ inl q
        | inr q ↦ inr (among_more k list i q)
      ]
    ];
  }

none_marked : (n k : ℕ) → get_or (replicate n false) k false ≡ false
none_marked zero k = refl
none_marked (suc n) zero = refl
none_marked (suc n) (suc k) = none_marked n k

-- the tops alone are marked at first
pub tops_alone : (nodes : List Node) (tops : List ℕ) (n : ℕ) (marks : List Bool) → Marks (replicate n false) marks tops (length tops) → (i : ℕ) → marked marks i → IsReached nodes tops marks i
tops_alone nodes tops n marks m i h =
    elim (m.only i h) [
      | inl q ↦ absurd (false≢true (sym (none_marked n i) ∙ q))
      | inr q ↦ inl q
    ]

-- a marked node, whose children are marked
module _ (nodes : List Node) (tops : List ℕ) (old new : List Bool) (i : ℕ) (node : Node) (order : ChildrenFirst nodes) (at : slice_get nodes i ≡ Some node) (on : marked old i) (m : Marks old new node.children (length node.children)) where
  child_below : (k : ℕ) → IsAmong k node.children (length node.children) → k < i
  child_below k h =
      let lt : get_or node.children h.0 0 < i = order i node at h.0 0 h.1 in omega (arith, lt, h.2)

  pub closed_more : (j : ℕ) → i ≤ j → (suc i ≤ j → IsClosedAt nodes old j) → IsClosedAt nodes new j
  closed_more j le before n e h k lt =
      elim (eqb_tells j i) [
        | inl p ↦
            let same : Some node ≡ Some n = sym at ∙ (ap (λ (x : ℕ). slice_get nodes x) (sym p.1) ∙ e) in
            let one : node ≡ n = cc in
            subst (λ (x : Node). (q : ℕ) → q < length x.children → marked new (get_or x.children q 0)) one m.all k lt
        | inr p ↦ elim (m.only j h) [
          | inl q ↦ m.kept (get_or n.children k 0) (before (omega (arith, p.1)) n e q k lt)
          | inr q ↦ let below : j < i = child_below j q in absurd (omega arith)
        ]
      ]

  child_here : (k : ℕ) (q : IsAmong k node.children (length node.children)) → child_in (slice_get nodes i) q.0 ≡ Some k
  child_here k q = ap (λ o. child_in o q.0) at ∙ (slice_get-get_or node.children q.0 0 q.1 ∙ ap Some q.2)

  pub reached_more : ((k : ℕ) → marked old k → IsReached nodes tops old k) → (k : ℕ) → marked new k → IsReached nodes tops new k
  reached_more before k h =
      elim (m.only k h) [
        | inl q ↦ elim (before k q) [ inl e ↦ inl e | inr p ↦ inr (p.0, m.kept p.0 p.1, p.2) ]
        | inr q ↦ inr (i, m.kept i on, (q.0, child_here k q))
      ]

-- a node that isn't marked
pub closed_passed : (nodes : List Node) (marks : List Bool) (i j : ℕ) → get_or marks i false ≡ false → i ≤ j → (suc i ≤ j → IsClosedAt nodes marks j) → IsClosedAt nodes marks j
closed_passed nodes marks i j off le before n e h k lt =
    elim (eqb_tells j i) [
      | inl p ↦ absurd (false≢true (sym off ∙ (ap (λ (x : ℕ). get_or marks x false) (sym p.1) ∙ h)))
      | inr p ↦ before (omega (arith, p.1)) n e h k lt
    ]

-- nothing stands past the end
pub closed_behind : (nodes : List Node) (marks : List Bool) → length marks ≡ length nodes → (i : ℕ) → length marks ≤ i → IsClosedAt nodes marks i
closed_behind nodes marks long i le n e h k lt = absurd (false≢true (sym (get_or_past marks i false le) ∙ h))

-- a mark that was read
pub mark_read : (marks : List Bool) (i : ℕ) (r : Bool) → i < length marks → r ≡ get_or marks i r → r ≡ true → marked marks i
mark_read marks i r lt e on = get_or_from_slice_get marks i r false (slice_get_read marks (length marks) i r refl lt e) ∙ on
