-- Where the nodes and entities of a linked program come from.
use Rattle.std.proofs.Common.{arith, ◌≡◌, ◌∙◌, ℕ, zero, suc, ◌-◌, ◌<◌, List, [], ◌∷◌, length, take, Option, Some, None, refl, sym, ap, subst, inl, inr}
use Rattle.std.specs.List.{slice_get, sum_by}
use Rattle.std.proofs.lemmas.Bool.{cases_Bool, cases_lt, false≢true}
use Rattle.std.proofs.lemmas.List.Sums.{sum_by-cons}
use Rattle.std.proofs.lemmas.Option.{slice_get_within}
use Rattle.core_tree.specs.declared.node.Unit.{Unit}
use Rattle.core_tree.specs.declared.node.Program.{Program}
use Rattle.core_tree.specs.declared.node.Node.{Node}
use Rattle.core_tree.specs.declared.node.Entity.{Entity}
use Rattle.link_model.specs.declared.item.Item.{Item}
use Rattle.link_model.specs.Units.{item}
use Rattle.link_names.specs.Externals.{is_external, entities_if, entity_at, item_of}
use Rattle.link_names.proofs.Ordering.{external_is, is_external_of}
use Rattle.unit_link.specs.Linked.{entity_of, IsMovedEntity, IsMovedNode, LinkedAt}
use Rattle.unit_link.specs.Places.{node_place}

some_one : {X : Type 0} → {x y : X} → ◌≡◌ {A = Option X} (Some x) (Some y) → x ≡ y
some_one h = cc

none_some : {X : Type 0} → {x : X} → ◌≡◌ {A = Option X} None (Some x) → ⊥
none_some h = cc

-- the unit and the number there of a node of the program
pub record IsSpot (units : List Unit) (n : ℕ) : Type 0 where
  pub unit : ℕ
  pub of : Unit
  pub number : ℕ
  pub of_is : slice_get units unit ≡ Some of
  pub within : number < length of.nodes.items
  pub place : node_place units unit number ≡ n

pub spot_of : (units : List Unit) (n : ℕ) → n < sum_by (λ x. length x.nodes.items) units → IsSpot units n
spot_of [] n lt = absurd (omega arith)
spot_of (x ∷ xs) n lt = elim (cases_lt n (length x.nodes.items)) [
  | inl less ↦ record { unit = 0; of = x; number = n; of_is = refl; within = less; place = omega arith }
  | inr more ↦
      let all = sum_by-cons (λ (y : Unit). length y.nodes.items) x xs in
      let s = spot_of xs (n - length x.nodes.items) (omega arith) in
      let before = sum_by-cons (λ (y : Unit). length y.nodes.items) x (take s.unit xs) in
      let place = s.place in
      record { unit = suc s.unit; of = s.of; number = s.number; of_is = s.of_is; within = s.within; place = omega arith }
]

some_at : {X : Type 0} (xs : List X) (k : ℕ) → k < length xs → (x : X) × (slice_get xs k ≡ Some x)
some_at [] k lt = absurd (omega arith)
some_at (x ∷ xs) zero lt = (x, refl)
some_at (x ∷ xs) (suc k) lt = some_at xs k (omega arith)

module _ {names : List (List ℕ)} (units : List Unit) (p : Program) (h : LinkedAt names units p) where
  -- a node of the program is one of a unit, with other numbers
  pub record NodeFrom (n : ℕ) (node : Node) : Type 0 where
    pub unit : ℕ
    pub of : Unit
    pub number : ℕ
    pub own : Node
    pub of_is : slice_get units unit ≡ Some of
    pub own_is : slice_get of.nodes.items number ≡ Some own
    pub place : node_place units unit number ≡ n
    pub moved : IsMovedNode units h.numbers h.entity_numbers p.types unit own node

  pub node_from : (n : ℕ) (node : Node) → slice_get p.nodes.items n ≡ Some node → NodeFrom n node
  node_from n node at =
      let count = h.nodes.count in
      let within = slice_get_within p.nodes.items n node at in
      let s = spot_of units n (omega arith) in
      let (own, own_is) = some_at s.of.nodes.items s.number s.within in
      let there = h.nodes.each s.unit s.number s.of own s.of_is own_is in
      let same : there.node ≡ node = some_one (sym there.node_is ∙ (ap (slice_get p.nodes.items) s.place ∙ at)) in
      record {
        unit = s.unit;
        of = s.of;
        number = s.number;
        own = own;
        of_is = s.of_is;
        own_is = own_is;
        place = s.place;
        moved = subst (λ (m : Node). IsMovedNode units h.numbers h.entity_numbers p.types s.unit own m) same there.moved;
      }

  -- an entity of the program is one of a unit, but for its type and its uses
  pub record EntityFrom (entity : Entity) : Type 0 where
    pub unit : ℕ
    pub of : Unit
    pub number : ℕ
    pub own : Entity
    pub of_is : slice_get units unit ≡ Some of
    pub own_is : slice_get of.entities.items number ≡ Some own
    pub moved : IsMovedEntity units h.entity_numbers unit own entity

  unit_of : (a : Item) (x : Entity) → entity_at units a ≡ Some x → (of : Unit) × (slice_get units a.unit ≡ Some of) × (slice_get of.entities.items a.number ≡ Some x)
  unit_of a x at = by (slice_get units a.unit) refl at
    where
      by : (o : Option Unit) → slice_get units a.unit ≡ o → slice_get (entities_if o) a.number ≡ Some x → (of : Unit) × (slice_get units a.unit ≡ Some of) × (slice_get of.entities.items a.number ≡ Some x)
      by (Some of) is e = (of, is, e)
      by None is e = absurd (none_some e)

  from_item : (a : Item) (x entity : Entity) → entity_at units a ≡ Some x → IsMovedEntity units h.entity_numbers a.unit x entity → EntityFrom entity
  from_item a x entity at moved =
      let (of, of_is, own_is) = unit_of a x at in
      record { unit = a.unit; of = of; number = a.number; own = x; of_is = of_is; own_is = own_is; moved = moved }

  -- each entity of a unit has its number in the program
  pub number_within : (a : Item) (x : Entity) → entity_at units a ≡ Some x → entity_of h.entity_numbers a < length p.entities.items
  number_within a x at = elim (cases_Bool (is_external x)) [
    | inl its ↦ (let s = h.entities.names a x at (external_is x its) in slice_get_within p.entities.items (entity_of h.entity_numbers a) s.0 s.1)
    | inr not_its ↦
        let s = h.entities.others a x at (λ ex. false≢true (sym not_its ∙ is_external_of x ex)) in
        slice_get_within p.entities.items (entity_of h.entity_numbers a) s.0 s.1
  ]

  pub entity_from : (e : ℕ) (entity : Entity) → slice_get p.entities.items e ≡ Some entity → EntityFrom entity
  entity_from e entity at =
      let (a, x, there, number) = h.entities.only e (slice_get_within p.entities.items e entity at) in
      elim (cases_Bool (is_external x)) [
        | inl its ↦
            let (y, y_is, linked) = h.entities.names a x there (external_is x its) in
            let same : y ≡ entity = some_one (sym y_is ∙ (ap (slice_get p.entities.items) number ∙ at)) in
            from_item (item_of linked.declared) linked.entity entity linked.entity_is (subst (λ (z : Entity). IsMovedEntity units h.entity_numbers linked.declared.unit linked.entity z) same linked.moved)
        | inr not_its ↦
            let (y, y_is, linked) = h.entities.others a x there (λ ex. false≢true (sym not_its ∙ is_external_of x ex)) in
            let same : y ≡ entity = some_one (sym y_is ∙ (ap (slice_get p.entities.items) number ∙ at)) in
            from_item a x entity there (subst (λ (z : Entity). IsMovedEntity units h.entity_numbers a.unit x z) same linked.moved)
      ]

  -- each node of a unit has its place in the program
  pub place_within : (u i : ℕ) (of : Unit) → slice_get units u ≡ Some of → i < length of.nodes.items → node_place units u i < length p.nodes.items
  place_within u i of is lt =
      let (own, own_is) = some_at of.nodes.items i lt in
      let there = h.nodes.each u i of own is own_is in
      slice_get_within p.nodes.items (node_place units u i) there.node there.node_is

  pub entity_item : (u e : ℕ) (of : Unit) → slice_get units u ≡ Some of → e < length of.entities.items → (x : Entity) × (entity_at units (item u e) ≡ Some x)
  entity_item u e of is lt =
      let (x, at) = some_at of.entities.items e lt in
      (x, ap (λ (o : Option Unit). slice_get (entities_if o) e) is ∙ at)
