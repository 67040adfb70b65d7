-- What makes objects in a linked program stands at different places, where it does so in its units.
use Rattle.std.proofs.Common.{◌≡◌, ◌∙◌, ℕ, List, Option, Some, None, slice_get, refl, sym, ap, subst, inl, inr}
use Rattle.std.proofs.lemmas.Bool.{cases_Bool, false≢true}
use Rattle.std.proofs.lemmas.Option.{slice_get_within}
use Rattle.pta_base.specs.declared.place.Place.{Place}
use Rattle.core_tree.specs.declared.node.Unit.{Unit}
use Rattle.core_tree.specs.declared.node.Program.{Program}
use Rattle.core_tree.specs.declared.node.Node.{Node}
use Rattle.core_tree.specs.declared.node.NodeKind.{NodeKind}
use Rattle.core_tree.specs.declared.node.NodeKind.TheVariants.{Named, FunctionName, Literal, Block, For, Initialise}
use Rattle.core_tree.specs.declared.node.Entity.{Entity}
use Rattle.link_model.specs.declared.item.Item.{Item}
use Rattle.link_names.specs.Externals.{is_external, entities_if, entity_at, item_of}
use Rattle.link_names.proofs.Ordering.{external_is, is_external_of}
use Rattle.linked_laws.proofs.link_laws.Wholeness.{maker_found, named_so}
use Rattle.unit_link.specs.Places.{node_place, kind_renamed}
use Rattle.unit_link.specs.Linked.{entity_of, IsMovedEntity, Declares, LinkedAt, joined}
use Rattle.unit_link.specs.Needs.{AreLinkable}
use Rattle.linked_laws.proofs.Origins.{node_from}
use Rattle.twin_report_laws.specs.orders.Order.{MayMake, MadeApart}
use Rattle.twin_report_laws.specs.apart.Apart.{AreUnitsApart}

one_of : {A : Type 0} {a b : A} → Some a ≡ Some b → a ≡ b
one_of h = cc

none_some : {A : Type 0} {a : A} → ◌≡◌ {A = Option A} None (Some a) → ⊥
none_some h = cc

-- kinds keep what they are
may_back : (f : ℕ → ℕ) (kind : NodeKind) → MayMake (kind_renamed f kind) → MayMake kind
may_back f (Named e) h = h
may_back f (FunctionName e) h = h
may_back f (Literal e) h = h
may_back f (Block es) h = h
may_back f (For es condition after) h = h
may_back f (Initialise e paths) h = h
may_back f kind h = h

module _ {entered : List (List ℕ)} (units : List Unit) (p : Program) (links : AreLinkable units) (each : AreUnitsApart units) (h : LinkedAt entered units p) where
  same_unit : (u v : ℕ) (x y : Unit) → slice_get units u ≡ Some x → slice_get units v ≡ Some y → u ≡ v → x ≡ y
  same_unit u v x y at there e = one_of (sym at ∙ (ap (slice_get units) e ∙ there))

  nodes_apart : (n m : ℕ) (x y : Node) → slice_get p.nodes.items n ≡ Some x → slice_get p.nodes.items m ≡ Some y → MayMake x.kind → MayMake y.kind → x.place ≡ y.place → n ≡ m
  nodes_apart n m x y at there mx my e =
      let a = node_from units p h n x at in
      let b = node_from units p h m y there in
      let places : a.own.place ≡ b.own.place = sym a.moved.place ∙ (e ∙ b.moved.place) in
      let ua = (links.numbered a.unit a.of a.of_is).nodes a.number a.own a.own_is in
      let ub = (links.numbered b.unit b.of b.of_is).nodes b.number b.own b.own_is in
      let unit : b.unit ≡ a.unit = sym ub ∙ (ap (λ (q : Place). q.unit) (sym places) ∙ ua) in
      let of = same_unit b.unit a.unit b.of a.of b.of_is a.of_is unit in
      let own : slice_get a.of.nodes.items b.number ≡ Some b.own = ap (λ (u : Unit). slice_get u.nodes.items b.number) (sym of) ∙ b.own_is in
      let numbers : a.number ≡ b.number =
      (each a.unit a.of a.of_is).nodes a.number b.number a.own b.own a.own_is own (may_back (h.entity_numbers a.unit) a.own.kind (subst MayMake a.moved.kind mx)) (may_back (h.entity_numbers b.unit) b.own.kind (subst MayMake b.moved.kind my))
      (ap (λ (q : Place). q.line) places) (ap (λ (q : Place). q.column) places) in
      sym a.place ∙ (ap (node_place units a.unit) numbers ∙ (ap (λ u. node_place units u b.number) (sym unit) ∙ b.place))

  unit_of : (a : Item) (x : Entity) → entity_at units a ≡ Some x → (of : Unit) × (slice_get units a.unit ≡ Some of) × (slice_get of.entities.items a.number ≡ Some x)
  unit_of a x at = by (slice_get units a.unit) refl at
    where
      by : (o : Option Unit) → slice_get units a.unit ≡ o → slice_get (entities_if o) a.number ≡ Some x → (of : Unit) × (slice_get units a.unit ≡ Some of) × (slice_get of.entities.items a.number ≡ Some x)
      by (Some of) is e = (of, is, e)
      by None is e = absurd (none_some e)

  -- the entity of a unit at whose place an entity stands
  record StandsBy (e : ℕ) (x : Entity) : Type 0 where
    at : Item
    of : Unit
    own : Entity
    of_is : slice_get units at.unit ≡ Some of
    own_is : slice_get of.entities.items at.number ≡ Some own
    number : entity_of h.entity_numbers at ≡ e
    place : x.place ≡ own.place

  by_item : (e : ℕ) (x own : Entity) (a : Item) → entity_at units a ≡ Some own → entity_of h.entity_numbers a ≡ e → IsMovedEntity units h.entity_numbers a.unit own x → StandsBy e x
  by_item e x own a at number moved =
      let (of, of_is, own_is) = unit_of a own at in
      record { at = a; of = of; own = own; of_is = of_is; own_is = own_is; number = number; place = moved.place }

  stands_by : (e : ℕ) (x : Entity) → slice_get p.entities.items e ≡ Some x → StandsBy e x
  stands_by e x at =
      let (a, y, there, number) = h.entities.only e (slice_get_within p.entities.items e x at) in
      elim (cases_Bool (is_external y)) [
        | inr not_its ↦
            let (z, z_is, linked) = h.entities.others a y there (λ ex. false≢true (sym not_its ∙ is_external_of y ex)) in
            let same : z ≡ x = one_of (sym z_is ∙ (ap (slice_get p.entities.items) number ∙ at)) in
            by_item e x y a there number (subst (λ (w : Entity). IsMovedEntity units h.entity_numbers a.unit y w) same linked.moved)
        | inl its ↦
            let external = external_is y its in
            let (z, z_is, linked) = h.entities.names a y there external in
            let same : z ≡ x = one_of (sym z_is ∙ (ap (slice_get p.entities.items) number ∙ at)) in
            let found = maker_found (joined units h.numbers p.types) h.declarations y.name linked.declared linked.maker in
            let d = (h.declared.each linked.declared).0 found.contained in
            let name : d.entity.name ≡ y.name = named_so units y.name linked.declared d.entity found.passes d.entity_is in
            let first : Declares units a y.name = record { entity = y; entity_is = there; external = external; named = refl } in
            let second : Declares units (item_of linked.declared) y.name = record { entity = d.entity; entity_is = d.entity_is; external = d.external; named = name } in
            let one : entity_of h.entity_numbers a ≡ entity_of h.entity_numbers (item_of linked.declared) =
            (h.entities.one a (item_of linked.declared) y d.entity there d.entity_is).1 (inr (record { name = y.name; first = first; second = second })) in
            by_item e x linked.entity (item_of linked.declared) linked.entity_is (sym one ∙ number) (subst (λ (w : Entity). IsMovedEntity units h.entity_numbers linked.declared.unit linked.entity w) same linked.moved)
      ]

  entities_apart : (e f : ℕ) (x y : Entity) → slice_get p.entities.items e ≡ Some x → slice_get p.entities.items f ≡ Some y → x.place ≡ y.place → e ≡ f
  entities_apart e f x y ex fy same =
      let a = stands_by e x ex in
      let b = stands_by f y fy in
      let places : a.own.place ≡ b.own.place = sym a.place ∙ (same ∙ b.place) in
      let ua = ((links.numbered a.at.unit a.of a.of_is).entities a.at.number a.own a.own_is).1 in
      let ub = ((links.numbered b.at.unit b.of b.of_is).entities b.at.number b.own b.own_is).1 in
      let unit : b.at.unit ≡ a.at.unit = sym ub ∙ (ap (λ (q : Place). q.unit) (sym places) ∙ ua) in
      let of = same_unit b.at.unit a.at.unit b.of a.of b.of_is a.of_is unit in
      let own : slice_get a.of.entities.items b.at.number ≡ Some b.own = ap (λ (u : Unit). slice_get u.entities.items b.at.number) (sym of) ∙ b.own_is in
      let numbers : a.at.number ≡ b.at.number =
      (each a.at.unit a.of a.of_is).entities a.at.number b.at.number a.own b.own a.own_is own (ap (λ (q : Place). q.line) places) (ap (λ (q : Place). q.column) places) in
      sym a.number ∙ (ap (h.entity_numbers a.at.unit) numbers ∙ (ap (λ u. h.entity_numbers u b.at.number) (sym unit) ∙ b.number))

pub linked_apart : {entered : List (List ℕ)} (units : List Unit) (p : Program) → AreLinkable units → AreUnitsApart units → LinkedAt entered units p → MadeApart p
linked_apart units p links each h = record {
  entities = λ e f x y ex fy dx dy same. entities_apart units p links each h e f x y ex fy same;
  nodes = λ n m x y nx my a b same. nodes_apart units p links each h n m x y nx my a b same;
}
