-- What holds of the trees of all senses holds of the trees by which the nodes of a right unit stand.
use Rattle.std.proofs.Common.{arith, ◌≡◌, ◌∙◌, ◌+◌, ◌<◌, ◌≤◌, ℕ, zero, suc, List, length, Option, Some, None, slice_get, refl, sym, ap, subst, ◌⊎◌, inl, inr}
use Rattle.std.proofs.lemmas.Option.{slice_get_within}
use Rattle.core_tree.specs.declared.node.Unit.{Unit}
use Rattle.core_tree.specs.declared.node.Node.{Node}
use Rattle.core_tree.specs.declared.node.Entity.{Entity}
use Rattle.core_tree.specs.Typed.{trees_of}
use Rattle.core_tree.specs.Range.{IsChild, child_in}
use Rattle.core_tree.proofs.Climb.{child_before, parent_within}
use Rattle.c_consts.specs.Core.{Core, Cores, Of, NoCores, MoreCores, cores_under, core_in}
use Rattle.c_senses.specs.Tree.{Source}
use Rattle.c_senses.specs.Sense.{Sense, IsCore, IsInitial, sense_in}
use Rattle.c_senses.specs.Right.{Right, StandsBy, AllStandBy, SameBody, IsBody, IsDeclaredAt, Within, Itself, Below, declared_name, representative, core_of_sense}
use Rattle.c_senses.specs.Right as right
use Rattle.core_node_laws.proofs.count_laws.once_nodes.Rooted.{OfBlock, OfInitial, body_is, body_by}
use Rattle.core_node_laws.specs.near_nodes.Holding.{Holds, AllHold, OfSense}
use Rattle.twin_report_laws.proofs.outcome_laws.used_names.Primaries.{Anywhere}

some_one : {X : Type 0} → {x y : X} → ◌≡◌ {A = Option X} (Some x) (Some y) → x ≡ y
some_one h = cc

none_some : {X : Type 0} → {x : X} → ◌≡◌ {A = Option X} None (Some x) → ⊥
none_some h = cc

module _ (asks : Core → Type 0) where
  part_in : (under : Cores) (k : ℕ) (c : Core) → AllHold asks under → core_in under k ≡ Some c → Holds asks c
  part_in NoCores k c h e = cc
  part_in (MoreCores x rest) zero c h e = subst (Holds asks) (let same : x ≡ c = cc in same) h.0
  part_in (MoreCores x rest) (suc k) c h e = part_in rest k c h.1 e

  part_holds : (c part : Core) (k : ℕ) → Holds asks c → core_in (cores_under c) k ≡ Some part → Holds asks part
  part_holds (Of kind place type under) part k h e = part_in under k part h.1 e

  module _ (s : Source) (name : List ℕ) (u : Unit) (r : Right s name u) (each : (i : ℕ) → OfSense s Anywhere asks (sense_in r.senses i)) where
    within_holds : (c body : Core) → Within s r.senses c body → Holds asks body → Holds asks c
    within_holds c body Itself h = h
    within_holds c body (Below {part = part} p inner) h = within_holds c part inner (part_holds body part p.0 h p.1)

    of_sense : (x : Sense) (c : Core) → OfSense s Anywhere asks x → core_of_sense s r.senses x ≡ Some c → Holds asks c
    of_sense (IsCore y) c h e = subst (Holds asks) (some_one e) h
    of_sense (IsInitial y k) c h e = subst (Holds asks) (some_one e) h
    of_sense x c h e = cc

    -- bodies
    named_holds : (d : ℕ) (what : right.Declared) (c : Core) → declared_name s r.senses d ≡ Some what → what.body ≡ Some c → Holds asks c
    named_holds d what c told body = by (body_by s r.senses (representative s r.senses d) c (sym (body_is s r.senses d what told) ∙ body))
      where
        by : OfBlock s r.senses (representative s r.senses d) c ⊎ OfInitial s r.senses (representative s r.senses d) c → Holds asks c
        by (inl (defined, (b, block, core))) = of_sense (sense_in r.senses b) c (each b) core
        by (inr (init, found, core)) = of_sense (sense_in r.senses init) c (each init) core

    body_holds : (d : ℕ) (what : right.Declared) (c : Core) → IsDeclaredAt s r.senses d what → what.body ≡ Some c → Holds asks c
    body_holds d what c (inl told) body = named_holds d what c told body
    body_holds d what c (inr (tree, (kind, (e, other, whole, told, is, inside)), same)) body =
        part_holds tree c 0 (within_holds tree whole inside (named_holds e other whole told is)) (sym (ap (λ (x : right.Declared). x.body) same) ∙ body)

    -- a node with the tree by which it stands
    pub record HoldsAt (i : ℕ) : Type 0 where
      pub tree : Core
      pub stands : StandsBy r.numbering u i tree
      pub holds : Holds asks tree

    top_holds : (o : Option Core) (i : ℕ) → SameBody r.numbering u o (Some i) → ((c : Core) → o ≡ Some c → Holds asks c) → HoldsAt i
    top_holds None i same h = absurd same
    top_holds (Some c) i same h = record { tree = c; stands = same; holds = h c refl }

    body_at : (i : ℕ) → IsBody u i → HoldsAt i
    body_at i (e, entity, at, body) =
        let (d, what, declared, number) = r.no_other_entity e (slice_get_within u.entities.items e entity at) in
        let (f, other, again, there, is) = r.each_declared d what declared in
        let same : f ≡ e = some_one (sym again ∙ number) in
        let one : other ≡ entity = some_one (sym there ∙ (ap (slice_get u.entities.items) same ∙ at)) in
        let bodies : SameBody r.numbering u what.body (Some i) =
        subst (λ (o : Option ℕ). SameBody r.numbering u what.body o) (ap (λ (x : Entity). x.body) one ∙ body) is.body in
        top_holds what.body i bodies (λ c has. body_holds d what c declared has)

    -- parts
    child_holds : (is : List ℕ) (cs : Cores) (k i : ℕ) → AllStandBy r.numbering u is cs → AllHold asks cs → slice_get is k ≡ Some i → HoldsAt i
    child_holds is NoCores k i stands h at = absurd (none_some (sym (ap (λ (l : List ℕ). slice_get l k) stands) ∙ at))
    child_holds is (MoreCores c rest) zero i stands h at =
        let same : stands.0 ≡ i = some_one (sym (ap (λ (l : List ℕ). slice_get l 0) stands.2) ∙ at) in
        record { tree = c; stands = subst (λ (j : ℕ). StandsBy r.numbering u j c) same stands.3; holds = h.0 }
    child_holds is (MoreCores c rest) (suc k) i stands h at = child_holds stands.1 rest k i stands.4 h.1 (sym (ap (λ (l : List ℕ). slice_get l (suc k)) stands.2) ∙ at)

    below_at : (p i : ℕ) → HoldsAt p → IsChild (trees_of u) p i → HoldsAt i
    below_at p i h (k, at) = by h.tree h.stands h.holds
      where
        by : (c : Core) → StandsBy r.numbering u p c → Holds asks c → HoldsAt i
        by (Of kind place type under) stands holds = child_holds stands.0.children under k i stands.5 holds.1 (sym (ap (λ (o : Option Node). child_in o k) stands.1) ∙ at)

    holds_from : (fuel i : ℕ) → i < length u.nodes.items → length u.nodes.items ≤ i + fuel → HoldsAt i
    holds_from zero i lt enough = absurd (omega (arith, lt, enough))
    holds_from (suc fuel) i lt enough = elim (r.no_other_node i lt) [
      | inl body ↦ body_at i body
      | inr (p, child) ↦
          let after = child_before (trees_of u) r.valid.trees.in_range p i child in
          below_at p i (holds_from fuel p (parent_within (trees_of u) p i child) (omega (arith, after, enough))) child
    ]

    pub node_holds : (i : ℕ) → i < length u.nodes.items → HoldsAt i
    node_holds i lt = holds_from (length u.nodes.items) i lt (omega arith)
