-- Nodes that stand in a tree, counted.
use Rattle.std.proofs.Common.{arith, ◌≡◌, ◌≤◌, ◌+◌, ℕ, zero, suc, nat_eq, Bool, true, false, List, Option, Some, None, slice_get, refl, sym, ap, ◌∙◌, subst}
use Rattle.std.proofs.lemmas.Bool.{eqb-true, eqb-false}
use Rattle.pta_base.specs.declared.place.Place.{Place}
use Rattle.core_tree.specs.declared.node.Unit.{Unit}
use Rattle.core_tree.specs.declared.node.Node.{Node}
use Rattle.core_tree.specs.declared.node.NodeKind.{NodeKind}
use Rattle.c_consts.specs.Core.{Core, Cores, Of, NoCores, MoreCores, kind_of, cores_under, core_in}
use Rattle.c_senses.specs.Right.{Numbering, SameKind, StandsBy, AllStandBy}
use Rattle.core_node_laws.specs.count_laws.count_rows.Counts.{Count, own_weight, count_in, count_whole, count_under}

pub some_one : {X : Type 0} → {x y : X} → ◌≡◌ {A = Option X} (Some x) (Some y) → x ≡ y
some_one h = cc

module _ (n : Count) where
  pub part_less : (cs : Cores) (k : ℕ) (c : Core) → core_in cs k ≡ Some c → count_in n c ≤ count_under n cs
  part_less NoCores k c e = cc
  part_less (MoreCores x rest) zero c e = let same : x ≡ c = cc in let h : count_in n x ≡ count_in n c = ap (count_in n) same in omega (arith, h)
  part_less (MoreCores x rest) (suc k) c e = let h = part_less rest k c e in omega (arith, h)

  pub two_less : (cs : Cores) (j k : ℕ) (c d : Core) → core_in cs j ≡ Some c → core_in cs k ≡ Some d → (j ≡ k → ⊥) → count_in n c + count_in n d ≤ count_under n cs
  two_less NoCores j k c d e f differ = cc
  two_less (MoreCores x rest) zero zero c d e f differ = absurd (differ refl)
  two_less (MoreCores x rest) zero (suc k) c d e f differ = let same : x ≡ c = cc in let h : count_in n x ≡ count_in n c = ap (count_in n) same in let g = part_less rest k d f in omega (arith, h, g)
  two_less (MoreCores x rest) (suc j) zero c d e f differ = let same : x ≡ d = cc in let h : count_in n x ≡ count_in n d = ap (count_in n) same in let g = part_less rest j c e in omega (arith, h, g)
  two_less (MoreCores x rest) (suc j) (suc k) c d e f differ = let g = two_less rest j k c d e f (λ same. differ (ap suc same)) in omega (arith, g)

  pub under_whole : (c : Core) → count_under n (cores_under c) ≤ count_whole n c
  under_whole (Of kind place type under) = omega arith

  module _ (m : Numbering) (u : Unit) where
    -- a node in the tree that stands at another one, with its own tree; nothing on the way is left out
    pub data Found : ℕ → Core → ℕ → Core → Type 0 where
      top : {r : ℕ} {c : Core} → Found r c r c
      inside : {r i x : ℕ} {c part own : Core} {node : Node} (k : ℕ) → slice_get u.nodes.items r ≡ Some node → slice_get node.children k ≡ Some i → core_in (cores_under c) k ≡ Some part → count_in n part ≡ count_whole n part → Found i part x own → Found r c x own

    pub children_stand : (is : List ℕ) (cs : Cores) (k i : ℕ) (part : Core) → AllStandBy m u is cs → slice_get is k ≡ Some i → core_in cs k ≡ Some part → StandsBy m u i part
    children_stand is NoCores k i part h e f = cc
    children_stand is (MoreCores c rest) zero i part h e f =
        let one : h.0 ≡ i = some_one (sym (ap (λ (l : List ℕ). slice_get l 0) h.2) ∙ e) in
        let same : c ≡ part = cc in
        subst (λ (x : Core). StandsBy m u i x) same (subst (λ (j : ℕ). StandsBy m u j c) one h.3)
    children_stand is (MoreCores c rest) (suc k) i part h e f = children_stand h.1 rest k i part h.4 (sym (ap (λ (l : List ℕ). slice_get l (suc k)) h.2) ∙ e) f

    -- a child has its part
    pub part_of : (is : List ℕ) (cs : Cores) (k i : ℕ) → AllStandBy m u is cs → slice_get is k ≡ Some i → (part : Core) × (core_in cs k ≡ Some part)
    part_of is NoCores k i h e = absurd (let none : slice_get is k ≡ None = ap (λ (l : List ℕ). slice_get l k) h in nothing (sym none ∙ e))
      where
        nothing : {X : Type 0} → {x : X} → ◌≡◌ {A = Option X} None (Some x) → ⊥
        nothing e = cc
    part_of is (MoreCores c rest) zero i h e = (c, refl)
    part_of is (MoreCores c rest) (suc k) i h e = part_of h.1 rest k i h.4 (sym (ap (λ (l : List ℕ). slice_get l (suc k)) h.2) ∙ e)

    pub all_under : (i : ℕ) (c : Core) (node : Node) → StandsBy m u i c → slice_get u.nodes.items i ≡ Some node → AllStandBy m u node.children (cores_under c)
    all_under i (Of kind place type under) node h e = let same : h.0 ≡ node = some_one (sym h.1 ∙ e) in subst (λ (x : Node). AllStandBy m u x.children under) same h.5

    pub kind_there : (i : ℕ) (c : Core) (node : Node) → StandsBy m u i c → slice_get u.nodes.items i ≡ Some node → SameKind m (kind_of c) node.kind
    kind_there i (Of kind place type under) node h e = let same : h.0 ≡ node = some_one (sym h.1 ∙ e) in subst (λ (x : Node). SameKind m kind x.kind) same h.2

    pub found_stands : {r x : ℕ} {c own : Core} → StandsBy m u r c → Found r c x own → StandsBy m u x own
    found_stands h top = h
    found_stands {r = r} {c = c} h (inside {i = i} {part = part} {node = node} k at child is kept found) =
        found_stands (children_stand node.children (cores_under c) k i part (all_under r c node h at) child is) found

    -- and what stands directly under it
    pub found_under : {r q x : ℕ} {c own part : Core} {node : Node} (k : ℕ) → Found r c q own → slice_get u.nodes.items q ≡ Some node → slice_get node.children k ≡ Some x → core_in (cores_under own) k ≡ Some part → count_in n part ≡ count_whole n part → Found r c x part
    found_under k top at child is kept = inside k at child is kept top
    found_under j (inside k at child is kept found) at' child' is' kept' = inside k at child is kept (found_under j found at' child' is' kept')

    abbrev pub Marked : Node → Type 0
    Marked node = (kind : NodeKind) (place : Place) → SameKind m kind node.kind → node.place ≡ place → 1 ≤ own_weight n kind place

    own_marked : (i : ℕ) (c : Core) (node : Node) → StandsBy m u i c → slice_get u.nodes.items i ≡ Some node → Marked node → count_under n (cores_under c) + 1 ≤ count_whole n c
    own_marked i (Of kind place type under) node h e marked =
        let same : h.0 ≡ node = some_one (sym h.1 ∙ e) in
        let one = marked kind place (subst (λ (x : Node). SameKind m kind x.kind) same h.2) (ap (λ (x : Node). x.place) (sym same) ∙ h.3) in
        omega (arith, one)

    pub one_found : {r x : ℕ} {c own : Core} (node : Node) → StandsBy m u r c → Found r c x own → slice_get u.nodes.items x ≡ Some node → Marked node → 1 ≤ count_whole n c
    one_found {x = x} {own = own} node h top e marked = let g = own_marked x own node h e marked in omega (arith, g)
    one_found {r = r} {c = c} node h (inside {i = i} {part = part} {node = up} k at child is kept found) e marked =
        let below = one_found node (children_stand up.children (cores_under c) k i part (all_under r c up h at) child is) found e marked in
        let less = part_less (cores_under c) k part is in
        let all = under_whole c in
        omega (arith, below, less, all, kept)

    one_in_part : (r i k : ℕ) (c part : Core) (up : Node) → StandsBy m u r c → slice_get u.nodes.items r ≡ Some up → slice_get up.children k ≡ Some i → core_in (cores_under c) k ≡ Some part → StandsBy m u i part
    one_in_part r i k c part up h at child is = children_stand up.children (cores_under c) k i part (all_under r c up h at) child is

    pub two_found : {r x y : ℕ} {c own other : Core} (node more : Node) → StandsBy m u r c → Found r c x own → Found r c y other → slice_get u.nodes.items x ≡ Some node → slice_get u.nodes.items y ≡ Some more → Marked node → Marked more → (x ≡ y → ⊥) → 2 ≤ count_whole n c
    two_found node more h top top e f a b differ = absurd (differ refl)
    two_found {x = x} {own = own} node more h top (inside {i = i} {part = part} {node = up} k at child is kept found) e f a b differ =
        let mine = own_marked x own node h e a in
        let below = one_found more (one_in_part x i k own part up h at child is) found f b in
        let less = part_less (cores_under own) k part is in
        omega (arith, mine, below, less, kept)
    two_found {y = y} {other = other} node more h (inside {i = i} {part = part} {node = up} k at child is kept found) top e f a b differ =
        let mine = own_marked y other more h f b in
        let below = one_found node (one_in_part y i k other part up h at child is) found e a in
        let less = part_less (cores_under other) k part is in
        omega (arith, mine, below, less, kept)
    two_found {r = r} {x = x} {y = y} {c = c} {own = own} {other = other} node more h (inside {i = i} {part = part} {node = up} j at child is kept found) (inside {i = o} {part = rest} {node = also} k at' child' is' kept' found') e f a b differ =
        by (nat_eq j k) refl (two_found {x = x} {y = y} {c = part} node more (one_in_part r i j c part up h at child is) found)
      where
        one_node : up ≡ also
        one_node = some_one (sym at ∙ at')

        apart : (j ≡ k → ⊥) → 2 ≤ count_whole n c
        apart never =
            let below = one_found node (one_in_part r i j c part up h at child is) found e a in
            let beside = one_found more (one_in_part r o k c rest also h at' child' is') found' f b in
            let both = two_less (cores_under c) j k part rest is is' never in
            let all = under_whole c in
            omega (arith, below, beside, both, all, kept, kept')

        by : (t : Bool) → nat_eq j k ≡ t → (Found i part y other → slice_get u.nodes.items x ≡ Some node → slice_get u.nodes.items y ≡ Some more → Marked node → Marked more → (x ≡ y → ⊥) → 2 ≤ count_whole n part) → 2 ≤ count_whole n c
        by false t again = apart (eqb-false j k t)
        by true t again =
            let same = eqb-true j k t in
            let child_same : i ≡ o = some_one (sym child ∙ (ap (λ (q : Node). slice_get q.children j) one_node ∙ (ap (slice_get also.children) same ∙ child'))) in
            let part_same : part ≡ rest = some_one (sym is ∙ (ap (core_in (cores_under c)) same ∙ is')) in
            let there : Found i part y other = subst (λ (z : ℕ). Found z part y other) (sym child_same) (subst (λ (z : Core). Found o z y other) (sym part_same) found') in
            let two = again there e f a b differ in
            let less = part_less (cores_under c) j part is in
            let all = under_whole c in
            omega (arith, two, less, all, kept)
