-- Programs that are one, but for numbers, have the same locations in the same order.
use Rattle.std.proofs.Common.{◌≡◌, ◌∙◌, ◌+◌, ℕ, List, ◌∷◌, [], length, sym, ap, subst}
use Rattle.std.specs.List.{AllZip}
use Rattle.std.proofs.lemmas.Option.{slice_get_within}
use Rattle.pta_base.specs.declared.place.Place.{Place}
use Rattle.core_tree.specs.declared.node.NodeKind.{NodeKind}
use Rattle.core_tree.specs.declared.node.NodeKind.TheVariants.{Text, CallNode}
use Rattle.core_tree.specs.declared.node.Program.{Program}
use Rattle.unit_link.specs.Places.{kind_renamed}
use Rattle.obj_made.specs.Made.{Spot, spot_at, last_place, varargs_spot, made_in_order, objects_in}
use Rattle.obj_space.specs.Objects.{library_part, objects_of}
use Rattle.obj_space.specs.Space.{locations_of, locations_in}
use Rattle.twin_report_laws.specs.outcome_laws.twin_programs.One.{Numbers, LeadsTo}
use Rattle.twin_report_laws.specs.outcome_laws.twin_locations.Same.{SameLocation}
use Rattle.twin_report_laws.proofs.outcome_laws.twin_locations.Members.{Member}
use Rattle.twin_report_laws.proofs.outcome_laws.twin_locations.Library.{library_same}
use Rattle.twin_report_laws.proofs.outcome_laws.twin_locations.Objects.{SameObject, IsKnownTable, entity_twin, node_twin, further_twin}
use Rattle.twin_report_laws.proofs.outcome_laws.twin_locations.Further.{last_same}
use Rattle.twin_report_laws.proofs.outcome_laws.twin_locations.Fixed.{library_view, library_twin}
use Rattle.twin_report_laws.proofs.outcome_laws.twin_locations.Whole.{known_table}
use Rattle.twin_report_laws.specs.orders.Order.{MayMake, MadeApart, SameOrder}
use Rattle.twin_report_laws.proofs.orders.Matched.{matched}
use Rattle.twin_report_laws.proofs.orders.Zips.{zip_append, zip_flat, zip_maps, zip_self}
use Rattle.twin_report_laws.proofs.orders.Entries.{Entry, Counts, counts, kind_of, rank, IsEntry, by_entity, by_node, by_further, entry_of, entity_there, node_there, further_there, entity_kind, node_kind, further_kind}
use Rattle.twin_report_laws.proofs.orders.Sorted.{made_ordered}
use Rattle.twin_report_laws.proofs.orders.Blocks.{block}

same_rank : (n m : Counts) (x y : Place) (i j : ℕ) → y ≡ x → kind_of m j ≡ kind_of n i → (y.unit ∷ y.line ∷ y.column ∷ kind_of m j ∷ []) ≡ (x.unit ∷ x.line ∷ x.column ∷ kind_of n i ∷ [])
same_rank n m x y i j place kind =
    ap (λ (z : Place). z.unit ∷ z.line ∷ z.column ∷ kind_of m j ∷ []) place ∙ ap (λ (k : ℕ). x.unit ∷ x.line ∷ x.column ∷ k ∷ []) kind

-- ---- the like of an entry
module _ (p q : Program) (to back : Numbers) (l : LeadsTo p q to back) (r : LeadsTo q p back to) (known : IsKnownTable p.types) (other : IsKnownTable q.types) where
  abbrev there_rank : Entry → List ℕ
  there_rank = rank (counts q)

  abbrev here_rank : Entry → List ℕ
  here_rank = rank (counts p)

  pub likes : (m : Entry) → IsEntry p m → (k : Entry) × Member (made_in_order q) k × (there_rank k ≡ here_rank m) × SameObject p q to m.1 k.1
  likes m (by_entity e x at spot is) =
      let t = entity_twin p q to back l r known other e x m.1 at is in
      let even : kind_of (counts q) (to.entity e) ≡ kind_of (counts p) e =
      entity_kind (counts q) (to.entity e) (slice_get_within q.entities.items (to.entity e) t.twin t.there)
      ∙ sym (entity_kind (counts p) e (slice_get_within p.entities.items e x at)) in (
        (spot_at t.twin.place (to.entity e), t.object),
        entity_there q (to.entity e) t.twin t.object t.there t.object_is,
        same_rank (counts p) (counts q) x.place t.twin.place e (to.entity e) t.like.place even
            ∙ sym (ap (λ (s : Spot). s.0 ∷ s.1 ∷ s.2 ∷ kind_of (counts p) s.3 ∷ []) spot),
        t.same,
      )
  likes m (by_node n x at spot is) =
      let t = node_twin p q to back l r known other n x m.1 at is in
      let even : kind_of (counts q) (length q.entities.items + to.node n) ≡ kind_of (counts p) (length p.entities.items + n) =
      node_kind (counts q) (to.node n) (slice_get_within q.nodes.items (to.node n) t.twin t.there) ∙ sym (node_kind (counts p) n (slice_get_within p.nodes.items n x at)) in (
        (spot_at t.twin.place (length q.entities.items + to.node n), t.made.0),
        node_there q (to.node n) t.twin t.made.0 t.there t.made.1,
        same_rank (counts p) (counts q) x.place t.twin.place (length p.entities.items + n) (length q.entities.items + to.node n) t.like.place even
            ∙ sym (ap (λ (s : Spot). s.0 ∷ s.1 ∷ s.2 ∷ kind_of (counts p) s.3 ∷ []) spot),
        t.made.2,
      )
  likes m (by_further e x at spot is) =
      let t = further_twin p q to back l r known other e x m.1 at is in
      let even : kind_of (counts q) (length q.entities.items + length q.nodes.items + to.entity e) ≡ kind_of (counts p) (length p.entities.items + length p.nodes.items + e) =
      further_kind (counts q) (to.entity e) ∙ sym (further_kind (counts p) e) in (
        (varargs_spot q (to.entity e) t.twin, t.object),
        further_there q (to.entity e) t.twin t.object t.there t.object_is,
        same_rank (counts p) (counts q) (last_place x.place e p.entities.items) (last_place t.twin.place (to.entity e) q.entities.items) (length p.entities.items + length p.nodes.items + e)
            (length q.entities.items + length q.nodes.items + to.entity e) (last_same p q to back l r e x t.twin at t.like) even
            ∙ sym (ap (λ (s : Spot). s.0 ∷ s.1 ∷ s.2 ∷ kind_of (counts p) s.3 ∷ []) spot),
        t.same,
      )

-- what stands apart in one program stands apart in the other
may_there : (f : ℕ → ℕ) (kind other : NodeKind) → other ≡ kind_renamed f kind → MayMake kind → MayMake other
may_there f (Text bytes) other e h = subst MayMake (sym e) tt
may_there f CallNode other e h = subst MayMake (sym e) tt
may_there f kind other e h = absurd h

pub apart_there : (p q : Program) (to back : Numbers) → LeadsTo p q to back → LeadsTo q p back to → MadeApart p → MadeApart q
apart_there p q to back l r apart = record {
  entities = λ e f x y ex ey dx dy same.
      let (a, a_at, la) = r.entities e x ex in
      let (b, b_at, lb) = r.entities f y ey in
      let one = apart.entities (back.entity e) (back.entity f) a b a_at b_at (λ h. dx (sym la.storage ∙ h)) (λ h. dy (sym lb.storage ∙ h)) (la.place ∙ (same ∙ sym lb.place)) in
      sym (r.entity_back e (slice_get_within q.entities.items e x ex)) ∙ (ap to.entity one ∙ r.entity_back f (slice_get_within q.entities.items f y ey));
  nodes = λ n m x y ex ey mx my same.
      let (a, a_at, la) = r.nodes n x ex in
      let (b, b_at, lb) = r.nodes m y ey in
      let one = apart.nodes (back.node n) (back.node m) a b a_at b_at (may_there back.entity x.kind a.kind la.kind mx) (may_there back.entity y.kind b.kind lb.kind my) (la.place ∙ (same ∙ sym lb.place)) in
      sym (r.node_back n (slice_get_within q.nodes.items n x ex)) ∙ (ap to.node one ∙ r.node_back m (slice_get_within q.nodes.items m y ey));
}

-- ---- all together
module _ (p q : Program) (to back : Numbers) (l : LeadsTo p q to back) (r : LeadsTo q p back to) (known : IsKnownTable p.types) (other : IsKnownTable q.types) (apart : MadeApart p) where
  made_matched : AllZip (λ (m k : Entry). SameObject p q to m.1 k.1) (made_in_order p) (made_in_order q)
  made_matched =
      matched (rank (counts p)) (rank (counts q)) (λ (m k : Entry). SameObject p q to m.1 k.1) (made_in_order p) (made_in_order q)
      (made_ordered p apart) (made_ordered q (apart_there p q to back l r apart))
      (λ m there. let (k, at, even, same) = likes p q to back l r known other m (entry_of p m there) in (k, at, (even, same)))
      (λ k there. let (m, at, even, same) = likes q p back to r l other known k (entry_of q k there) in (m, at, even))

  objects_matched : AllZip (SameObject p q to) (objects_of p) (objects_of q)
  objects_matched =
      zip_append (SameObject p q to) (objects_in (made_in_order p)) (objects_in (made_in_order q)) (library_part p) (library_part q)
      (zip_maps (λ (m k : Entry). SameObject p q to m.1 k.1) (SameObject p q to) (λ m. m.1) (λ m. m.1) (λ m k h. h) (made_in_order p) (made_in_order q) made_matched)
      (subst (AllZip (SameObject p q to) (library_part p)) (sym (library_same p q to back l r))
      (zip_self (SameObject p q to) (library_part p) (λ o there. library_twin p q to o (library_view p o there))))

  pub locations_matched : AllZip (SameLocation to) (locations_in p) (locations_in q)
  unfolding locations_in
  locations_matched = zip_flat (SameObject p q to) (SameLocation to) (locations_of p.types) (locations_of q.types) (block p q to) (objects_of p) (objects_of q) objects_matched

pub same_order : SameOrder
same_order p q o made named other_made other_named apart =
    locations_matched p q o.to o.back o.forth o.returned (known_table p.types made named) (known_table q.types other_made other_named) apart
