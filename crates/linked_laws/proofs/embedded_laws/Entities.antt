-- The entities of units in the program.
use Rattle.std.proofs.Common.{◌≡◌, ◌∙◌, ◌⊎◌, ℕ, List, Option, Some, None, IsSome, refl, sym, ap, subst, inl, inr}
use Rattle.std.specs.List.{slice_get}
use Rattle.std.proofs.lemmas.Bool.{cases_Bool, false≢true}
use Rattle.std.proofs.lemmas.Option.{slice_get_within}
use Rattle.c_types.specs.Trees.{Ctype}
use Rattle.c_types.specs.Table.{type_of}
use Rattle.core_tree.specs.declared.node.Unit.{Unit}
use Rattle.core_tree.specs.declared.node.Program.{Program}
use Rattle.core_tree.specs.declared.node.Entity.{Entity}
use Rattle.core_tree.specs.Typed.{trees_in}
use Rattle.core_tree.specs.Range.{EachEntity}
use Rattle.core_tree.specs.Valid.{IsLocal}
use Rattle.link_model.specs.declared.item.Item.{Item}
use Rattle.link_model.specs.Units.{item}
use Rattle.link_model.specs.Merged.{moved}
use Rattle.link_names.specs.declared.declared.Declared.{Declared}
use Rattle.link_names.specs.Externals.{Joined, IsExternal, is_external, entities_if, entity_at, item_of}
use Rattle.link_names.specs.Together.{maker_of, type_made}
use Rattle.link_names.proofs.Ordering.{external_is, is_external_of}
use Rattle.linked_laws.proofs.link_laws.Wholeness.{maker_found, named_so}
use Rattle.unit_link.specs.Linked.{entity_of, IsMovedEntity, NameUsed, IsLinkedName, IsLinkedOther, LinkedAt, joined}
use Rattle.unit_link.specs.Needs.{AreLinkable}
use Rattle.linked_laws.specs.alike_laws.Alike.{Keeps}
use Rattle.linked_laws.proofs.alike_laws.Entities.{entity_types}
use Rattle.linked_laws.proofs.alike_laws.Origins.{own_type}
use Rattle.linked_laws.proofs.embedded_laws.Lists.{some_one, none_some}
use Rattle.linked_laws.proofs.embedded_laws.Bodies.{maker_is}

module _ {names : List (List ℕ)} (units : List Unit) (p : Program) (linkable : AreLinkable units) (h : LinkedAt names units p) where
  abbrev j : Joined
  j = joined units h.numbers p.types

  -- the program's entity y is the unit's entity x
  abbrev pub MovesEntity : ℕ → Entity → Entity → Type 0
  MovesEntity u x y = IsMovedEntity units h.entity_numbers u x y

  pub at_item : (u e : ℕ) (of : Unit) (x : Entity) → slice_get units u ≡ Some of → slice_get of.entities.items e ≡ Some x → entity_at units (item u e) ≡ Some x
  at_item u e of x is at = ap (λ (o : Option Unit). slice_get (entities_if o) e) is ∙ at

  pub record InOne (a : Item) (x : Entity) : Type 0 where
    pub of : Unit
    pub of_is : slice_get units a.unit ≡ Some of
    pub at : slice_get of.entities.items a.number ≡ Some x

  pub in_one : (a : Item) (x : Entity) → entity_at units a ≡ Some x → InOne a x
  in_one a x at = by (slice_get units a.unit) refl at
    where
      by : (o : Option Unit) → slice_get units a.unit ≡ o → slice_get (entities_if o) a.number ≡ Some x → InOne a x
      by (Some of) is e = record { of = of; of_is = is; at = e }
      by None is e = absurd (none_some e)

  -- what makes an external name in the program
  pub record IsNameOf (d : Declared) (of : Unit) (x y : Entity) : Type 0 where
    pub of_is : slice_get units d.unit ≡ Some of
    pub at : slice_get of.entities.items d.number ≡ Some x
    pub there : slice_get p.entities.items (h.entity_numbers d.unit d.number) ≡ Some y
    pub external : IsExternal x
    pub maker : maker_of j h.declarations x.name ≡ Some d
    pub moves : MovesEntity d.unit x y
    pub type : type_of p.types y.ty.0 ≡ type_made j h.declarations x.name d
    pub used : NameUsed units x.name y.used

  -- what isn't external, with its type
  pub record IsOtherOf (u e : ℕ) (of : Unit) (x y : Entity) : Type 0 where
    pub of_is : slice_get units u ≡ Some of
    pub at : slice_get of.entities.items e ≡ Some x
    pub there : slice_get p.entities.items (h.entity_numbers u e) ≡ Some y
    pub other : IsExternal x → ⊥
    pub moves : MovesEntity u x y
    pub type : type_of p.types y.ty.0 ≡ moved h.numbers u (type_of of.types x.ty.0)
    pub used : y.used ≡ x.used

  -- a name that an entity of a unit has: it is made by its maker
  pub record IsMadeAt (x y : Entity) (e : ℕ) : Type 0 where
    pub declared : Declared
    pub of : Unit
    pub own : Entity
    pub name : IsNameOf declared of own y
    pub named : own.name ≡ x.name
    pub number : h.entity_numbers declared.unit declared.number ≡ e

  pub made_at : (u e : ℕ) (of : Unit) (x y : Entity) → slice_get units u ≡ Some of → slice_get of.entities.items e ≡ Some x → IsExternal x → slice_get p.entities.items (h.entity_numbers u e) ≡ Some y
      → IsLinkedName j h.declarations h.entity_numbers x.name y → IsMadeAt x y (h.entity_numbers u e)
  made_at u e of x y is at external there linked =
      let d = linked.declared in
      let found = maker_found j h.declarations x.name d linked.maker in
      let declaration = (h.declared.each d).0 found.contained in
      let one : declaration.entity ≡ linked.entity = some_one (sym declaration.entity_is ∙ linked.entity_is) in
      let own_external : IsExternal linked.entity = subst IsExternal one declaration.external in
      let named : linked.entity.name ≡ x.name = named_so units x.name d linked.entity found.passes linked.entity_is in
      let inside = in_one (item_of d) linked.entity linked.entity_is in
      let number : h.entity_numbers d.unit d.number ≡ h.entity_numbers u e =
      (h.entities.one (item_of d) (item u e) linked.entity x linked.entity_is (at_item u e of x is at)).1 (inr (record {
        name = x.name;
        first = record { entity = linked.entity; entity_is = linked.entity_is; external = own_external; named = named };
        second = record { entity = x; entity_is = at_item u e of x is at; external = external; named = refl };
      })) in
      record {
        declared = d;
        of = inside.of;
        own = linked.entity;
        name = record {
          of_is = inside.of_is;
          at = inside.at;
          there = ap (slice_get p.entities.items) number ∙ there;
          external = own_external;
          maker = ap (maker_of j h.declarations) named ∙ linked.maker;
          moves = linked.moved;
          type = linked.type ∙ sym (ap (λ (n : List ℕ). type_made j h.declarations n d) named);
          used = subst (λ (n : List ℕ). NameUsed units n y.used) (sym named) linked.used;
        };
        named = named;
        number = number;
      }

  other_at : (u e : ℕ) (of : Unit) (x y : Entity) → slice_get units u ≡ Some of → slice_get of.entities.items e ≡ Some x → (IsExternal x → ⊥) → slice_get p.entities.items (h.entity_numbers u e) ≡ Some y
      → IsLinkedOther j h.entity_numbers (item u e) x y → IsOtherOf u e of x y
  other_at u e of x y is at other there linked = record {
    of_is = is;
    at = at;
    there = there;
    other = other;
    moves = linked.moved;
    type = linked.type ∙ own_type units p linkable h u of e x is at;
    used = linked.used;
  }

  -- an entity of a unit stands in the program: as its name's, or as itself
  pub record StandsAt (u e : ℕ) (of : Unit) (x : Entity) : Type 0 where
    pub entity : Entity
    pub there : slice_get p.entities.items (h.entity_numbers u e) ≡ Some entity
    pub which : (IsExternal x × IsMadeAt x entity (h.entity_numbers u e)) ⊎ IsOtherOf u e of x entity

  pub stands_at : (u e : ℕ) (of : Unit) (x : Entity) → slice_get units u ≡ Some of → slice_get of.entities.items e ≡ Some x → StandsAt u e of x
  stands_at u e of x is at = elim (cases_Bool (is_external x)) [
    | inl its ↦
        let external = external_is x its in
        let (y, there, linked) = h.entities.names (item u e) x (at_item u e of x is at) external in
        record { entity = y; there = there; which = inl (external, made_at u e of x y is at external there linked) }
    | inr not_its ↦
        let other : IsExternal x → ⊥ = λ ex. false≢true (sym not_its ∙ is_external_of x ex) in
        let (y, there, linked) = h.entities.others (item u e) x (at_item u e of x is at) other in
        record { entity = y; there = there; which = inr (other_at u e of x y is at other there linked) }
  ]

  -- what holds of each maker of a name and of each other entity in the program holds of all
  pub each_entity : (P : ℕ → Entity → Type 0) → ((d : Declared) (of : Unit) (x y : Entity) → IsNameOf d of x y → P (h.entity_numbers d.unit d.number) y)
      → ((u e : ℕ) (of : Unit) (x y : Entity) → IsOtherOf u e of x y → P (h.entity_numbers u e) y) → EachEntity (trees_in p) P
  each_entity P f g e entity at =
      let (a, x, x_at, number) = h.entities.only e (slice_get_within p.entities.items e entity at) in
      let inside = in_one a x x_at in
      let s = stands_at a.unit a.number inside.of x inside.of_is inside.at in
      let same : s.entity ≡ entity = some_one (sym s.there ∙ (ap (slice_get p.entities.items) number ∙ at)) in
      let here : P (h.entity_numbers a.unit a.number) s.entity = elim s.which [
        | inl made ↦ (let m = made.1 in subst (λ (k : ℕ). P k s.entity) m.number (f m.declared m.of m.own s.entity m.name))
        | inr other ↦ g a.unit a.number inside.of x s.entity other
      ] in
      subst (λ (k : ℕ). P k entity) number (subst (λ (y : Entity). P (entity_of h.entity_numbers a) y) same here)

  -- what holds of each entity in the program whose unit's entity it is
  pub record IsEntityOfUnit (u e : ℕ) (of : Unit) (x y : Entity) : Type 0 where
    pub of_is : slice_get units u ≡ Some of
    pub at : slice_get of.entities.items e ≡ Some x
    pub there : slice_get p.entities.items (h.entity_numbers u e) ≡ Some y
    pub moves : MovesEntity u x y

  pub each_moved : (P : ℕ → Entity → Type 0) → ((u e : ℕ) (of : Unit) (x y : Entity) → IsEntityOfUnit u e of x y → P (h.entity_numbers u e) y) → EachEntity (trees_in p) P
  each_moved P f =
      each_entity P (λ d of x y m. f d.unit d.number of x y (record { of_is = m.of_is; at = m.at; there = m.there; moves = m.moves }))
      (λ u e of x y m. f u e of x y (record { of_is = m.of_is; at = m.at; there = m.there; moves = m.moves }))

  -- the type of an entity of a unit in the program
  pub keeps_type : (u e : ℕ) (of : Unit) (x y : Entity) → slice_get units u ≡ Some of → slice_get of.entities.items e ≡ Some x → slice_get p.entities.items (h.entity_numbers u e) ≡ Some y
      → Keeps (moved h.numbers u (type_of of.types x.ty.0)) (type_of p.types y.ty.0)
  keeps_type u e of x y is at there =
      subst (λ (t : Ctype). Keeps t (type_of p.types y.ty.0)) (own_type units p linkable h u of e x is at) (entity_types units p h (item u e) x y (at_item u e of x is at) there)

  -- an entity with a body, or one that isn't external, is itself in the program
  pub bodied_moves : (u e : ℕ) (of : Unit) (x y : Entity) → slice_get units u ≡ Some of → slice_get of.entities.items e ≡ Some x → slice_get p.entities.items (h.entity_numbers u e) ≡ Some y → IsSome x.body → MovesEntity u x y
  bodied_moves u e of x y is at there body =
      let s = stands_at u e of x is at in
      let same : s.entity ≡ y = some_one (sym s.there ∙ there) in
      elim s.which [
        | inl made ↦
            let m = made.1 in
            let a = at_item u e of x is at in
            let its : item_of m.declared ≡ item u e = maker_is units p h (item u e) x m.declared a made.0 body (ap (maker_of j h.declarations) (sym m.named) ∙ m.name.maker) in
            let unit : m.declared.unit ≡ u = ap (λ (i : Item). i.unit) its in
            let own_at = at_item m.declared.unit m.declared.number m.of m.own m.name.of_is m.name.at in
            let own : m.own ≡ x = some_one (sym own_at ∙ (ap (entity_at units) its ∙ a)) in
            subst (λ (v : ℕ). MovesEntity v x y) unit
            (subst (λ (z : Entity). MovesEntity m.declared.unit z y) own (subst (λ (w : Entity). MovesEntity m.declared.unit m.own w) same m.name.moves))
        | inr other ↦ subst (λ (w : Entity). MovesEntity u x w) same other.moves
      ]

  pub local_moves : (u e : ℕ) (of : Unit) (x y : Entity) → slice_get units u ≡ Some of → slice_get of.entities.items e ≡ Some x → slice_get p.entities.items (h.entity_numbers u e) ≡ Some y → (IsExternal x → ⊥) → MovesEntity u x y
  local_moves u e of x y is at there not_external =
      let s = stands_at u e of x is at in
      let same : s.entity ≡ y = some_one (sym s.there ∙ there) in
      elim s.which [
        | inl made ↦ absurd (not_external made.0)
        | inr other ↦ subst (λ (w : Entity). MovesEntity u x w) same other.moves
      ]

  -- in the program a local is itself
  pub local_back : (u e : ℕ) (of : Unit) (x y : Entity) → slice_get units u ≡ Some of → slice_get of.entities.items e ≡ Some x → slice_get p.entities.items (h.entity_numbers u e) ≡ Some y → IsLocal y.storage → IsExternal x → ⊥
  local_back u e of x y is at there local external =
      let s = stands_at u e of x is at in
      let same : s.entity ≡ y = some_one (sym s.there ∙ there) in
      elim s.which [
        | inl made ↦ (let m = made.1 in m.name.external.lasting (subst IsLocal (m.name.moves.storage) (subst (λ (w : Entity). IsLocal w.storage) (sym same) local)))
        | inr other ↦ other.other external
      ]

  -- two entities of units that are one in the program are declarations of one external name, or the same
  pub one_of_two : (u e v f : ℕ) (of other : Unit) (x z : Entity) → slice_get units u ≡ Some of → slice_get of.entities.items e ≡ Some x → slice_get units v ≡ Some other → slice_get other.entities.items f ≡ Some z
      → h.entity_numbers u e ≡ h.entity_numbers v f → ((u ≡ v) × (e ≡ f)) ⊎ (IsExternal x × IsExternal z × (z.name ≡ x.name))
  one_of_two u e v f of other x z is at there z_at number =
      elim ((h.entities.one (item u e) (item v f) x z (at_item u e of x is at) (at_item v f other z there z_at)).0 number) [
        | inl same ↦ inl (ap (λ (i : Item). i.unit) same, ap (λ (i : Item). i.number) same)
        | inr share ↦
            let first : share.first.entity ≡ x = some_one (sym share.first.entity_is ∙ at_item u e of x is at) in
            let second : share.second.entity ≡ z = some_one (sym share.second.entity_is ∙ at_item v f other z there z_at) in
            inr (
              subst IsExternal first share.first.external,
              subst IsExternal second share.second.external,
              ap (λ (w : Entity). w.name) (sym second) ∙ (share.second.named ∙ (sym share.first.named ∙ ap (λ (w : Entity). w.name) first)),
            )
      ]
