-- Lists of units that are alike, unit by unit.
use Rattle.std.proofs.Common.{◌≡◌, ◌∙◌, ◌⊎◌, ℕ, List, Some, None, sym, subst, inl, inr}
use Rattle.std.specs.List.{slice_get}
use Rattle.core_tree.specs.declared.node.Unit.{Unit}
use Rattle.twin_report_laws.specs.outcome_laws.fault_laws.Twins.{AreAllTwins}
use Rattle.twin_report_laws.specs.outcome_laws.twin_programs.One.{AreAllRooted}
use Rattle.twin_report_laws.proofs.outcome_laws.twin_programs.Lists.{some_one, none_some}
use Rattle.twin_report_laws.proofs.outcome_laws.twin_programs.Units.{UnitLeads, Paired, Twins, turned, turned_paired, unit_leads, leads_by}
use Rattle.twin_report_laws.proofs.outcome_laws.fault_laws.Twinned.{AreAt, both_at}

-- each unit has one in its position whose entities and nodes are its pairs
pub record Matching (us vs : List Unit) (P Q : ℕ → ℕ → ℕ → Type 0) : Type 0 where
  pub units : (k : ℕ) (u : Unit) → slice_get us k ≡ Some u → (v : Unit) × (slice_get vs k ≡ Some v) × UnitLeads u v (P k) (Q k)

module _ (us vs : List Unit) (all : AreAllTwins us vs) (rooted : AreAllRooted us) (other_rooted : AreAllRooted vs) where
  abbrev Both : ℕ → Type 0
  Both k = ((slice_get us k ≡ None) × (slice_get vs k ≡ None)) ⊎ AreAt us vs k

  abbrev entities_by : (k : ℕ) → Both k → ℕ → ℕ → Type 0
  entities_by k (inl none) e f = ⊥
  entities_by k (inr at) e f = Paired at.twins.alike.one at.twins.alike.other at.unit at.other e f

  abbrev nodes_by : (k : ℕ) → Both k → ℕ → ℕ → Type 0
  nodes_by k (inl none) i j = ⊥
  nodes_by k (inr at) i j = Twins at.twins.alike.one at.twins.alike.other at.unit at.other i j

  abbrev pub entity_pairs : ℕ → ℕ → ℕ → Type 0
  entity_pairs k = entities_by k (both_at us vs all k)

  abbrev pub node_pairs : ℕ → ℕ → ℕ → Type 0
  node_pairs k = nodes_by k (both_at us vs all k)

  units_by : (k : ℕ) (u : Unit) → slice_get us k ≡ Some u → (o : Both k) → (v : Unit) × (slice_get vs k ≡ Some v) × UnitLeads u v (entities_by k o) (nodes_by k o)
  units_by k u at (inl none) = absurd (none_some (sym none.0 ∙ at))
  units_by k u at (inr both) =
      let t = both.twins in
      let here : both.unit ≡ u = some_one (sym both.first ∙ at) in
      let leads : UnitLeads both.unit both.other (Paired t.alike.one t.alike.other both.unit both.other) (Twins t.alike.one t.alike.other both.unit both.other) =
      unit_leads t.alike.one t.alike.other both.unit both.other t.alike.one_once t.alike.other_once t.alike.forth t.valid t.other_valid (rooted.each k both.unit both.first) t.named in
      (both.other, both.second, subst (λ (w : Unit). UnitLeads w both.other (Paired t.alike.one t.alike.other both.unit both.other) (Twins t.alike.one t.alike.other both.unit both.other)) here leads)

  units_back : (k : ℕ) (v : Unit) → slice_get vs k ≡ Some v → (o : Both k) → (u : Unit) × (slice_get us k ≡ Some u) × UnitLeads v u (λ f e. entities_by k o e f) (λ j i. nodes_by k o i j)
  units_back k v at (inl none) = absurd (none_some (sym none.1 ∙ at))
  units_back k v at (inr both) =
      let t = both.twins in
      let there : both.other ≡ v = some_one (sym both.second ∙ at) in
      let leads : UnitLeads both.other both.unit (Paired t.alike.other t.alike.one both.other both.unit) (Twins t.alike.other t.alike.one both.other both.unit) =
      unit_leads t.alike.other t.alike.one both.other both.unit t.alike.other_once t.alike.one_once t.alike.back t.other_valid t.valid (other_rooted.each k both.other both.second) t.other_named in
      let flipped : UnitLeads both.other both.unit (λ f e. Paired t.alike.one t.alike.other both.unit both.other e f) (λ j i. Twins t.alike.one t.alike.other both.unit both.other i j) =
      leads_by both.other both.unit (Paired t.alike.other t.alike.one both.other both.unit) (λ f e. Paired t.alike.one t.alike.other both.unit both.other e f)
      (Twins t.alike.other t.alike.one both.other both.unit) (λ j i. Twins t.alike.one t.alike.other both.unit both.other i j)
      (λ f e h. turned_paired t.alike.other t.alike.one both.other both.unit f e h) (λ f e h. turned_paired t.alike.one t.alike.other both.unit both.other e f h)
      (λ j i h. turned t.alike.other t.alike.one both.other both.unit j i h) (λ j i h. turned t.alike.one t.alike.other both.unit both.other i j h) leads in
      (both.unit, both.first, subst (λ (w : Unit). UnitLeads w both.unit (λ f e. Paired t.alike.one t.alike.other both.unit both.other e f) (λ j i. Twins t.alike.one t.alike.other both.unit both.other i j)) there flipped)

  pub matching : Matching us vs entity_pairs node_pairs
  matching = record { units = λ k u at. units_by k u at (both_at us vs all k) }

  pub matching_back : Matching vs us (λ k f e. entity_pairs k e f) (λ k j i. node_pairs k i j)
  matching_back = record { units = λ k v at. units_back k v at (both_at us vs all k) }
