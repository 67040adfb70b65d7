-- Where a program's entity comes from, and the type that it has there.
use Rattle.std.proofs.Common.{◌≡◌, ◌∙◌, ℕ, ◌<◌, true, List, length, Option, Some, None, refl, sym, ap, subst, inl, inr}
use Rattle.std.specs.List.{slice_get}
use Rattle.std.proofs.lemmas.Bool.{cases_Bool, false≢true}
use Rattle.std.proofs.lemmas.Option.{slice_get_within}
use Rattle.c_types.specs.Trees.{Ctype}
use Rattle.c_types.specs.Table.{type_of}
use Rattle.core_tree.specs.declared.node.Unit.{Unit}
use Rattle.core_tree.specs.declared.node.Program.{Program}
use Rattle.core_tree.specs.declared.node.Entity.{Entity}
use Rattle.link_model.specs.declared.item.Item.{Item}
use Rattle.link_model.specs.Units.{item, types_if}
use Rattle.link_model.specs.Merged.{moved}
use Rattle.link_names.specs.Externals.{entities_if, entity_at, item_of, type_if, type_in, is_external}
use Rattle.link_names.proofs.Ordering.{external_is, is_external_of}
use Rattle.linked_laws.proofs.link_laws.Wholeness.{maker_found, named_so}
use Rattle.unit_link.specs.Linked.{IsMovedEntity, IsLinkedName, LinkedAt, joined}
use Rattle.unit_link.specs.Needs.{AreLinkable}
use Rattle.linked_laws.specs.alike_laws.Alike.{Keeps}
use Rattle.linked_laws.proofs.alike_laws.Entities.{external_keeps}

some_one : {X : Type 0} → {x y : X} → ◌≡◌ {A = Option X} (Some x) (Some y) → x ≡ y
some_one h = cc

none_some : {X : Type 0} → {x : X} → ◌≡◌ {A = Option X} None (Some x) → ⊥
none_some h = cc

module _ {names : List (List ℕ)} (units : List Unit) (p : Program) (linkable : AreLinkable units) (h : LinkedAt names units p) where
  -- the type of an entity of a unit in the table
  pub own_type : (u : ℕ) (of : Unit) (e : ℕ) (x : Entity) → slice_get units u ≡ Some of → slice_get of.entities.items e ≡ Some x
      → type_in (joined units h.numbers p.types) (item u e) ≡ moved h.numbers u (type_of of.types x.ty.0)
  own_type u of e x is at =
      let known = (linkable.valid u of is).trees.in_range.entity_types e x at in
      let has = h.types.types (item u x.ty.0) (subst (λ (o : Option Unit). x.ty.0 < length (types_if o).terms) (sym is) known) in
      ap (λ (o : Option Entity). type_if (joined units h.numbers p.types) u o) (ap (λ (o : Option Unit). slice_get (entities_if o) e) is ∙ at)
      ∙ (has.type_is ∙ ap (λ (o : Option Unit). moved h.numbers u (type_of (types_if o) x.ty.0)) is)

  -- an entity of the program is one of a unit, whose type it keeps
  pub record TypedFrom (entity : Entity) : Type 0 where
    pub unit : ℕ
    pub of : Unit
    pub number : ℕ
    pub own : Entity
    pub of_is : slice_get units unit ≡ Some of
    pub own_is : slice_get of.entities.items number ≡ Some own
    pub moves : IsMovedEntity units h.entity_numbers unit own entity
    pub keeps : Keeps (moved h.numbers unit (type_of of.types own.ty.0)) (type_of p.types entity.ty.0)

  unit_of : (a : Item) (x : Entity) → entity_at units a ≡ Some x → (of : Unit) × (slice_get units a.unit ≡ Some of) × (slice_get of.entities.items a.number ≡ Some x)
  unit_of a x at = by (slice_get units a.unit) refl at
    where
      by : (o : Option Unit) → slice_get units a.unit ≡ o → slice_get (entities_if o) a.number ≡ Some x → (of : Unit) × (slice_get units a.unit ≡ Some of) × (slice_get of.entities.items a.number ≡ Some x)
      by (Some of) is e = (of, is, e)
      by None is e = absurd (none_some e)

  from_item : (a : Item) (x entity : Entity) → entity_at units a ≡ Some x → IsMovedEntity units h.entity_numbers a.unit x entity → Keeps (type_in (joined units h.numbers p.types) a) (type_of p.types entity.ty.0) → TypedFrom entity
  from_item a x entity at moves keeps =
      let (of, of_is, own_is) = unit_of a x at in
      record {
        unit = a.unit;
        of = of;
        number = a.number;
        own = x;
        of_is = of_is;
        own_is = own_is;
        moves = moves;
        keeps = subst (λ (t : Ctype). Keeps t (type_of p.types entity.ty.0)) (own_type a.unit of a.number x of_is own_is) keeps;
      }

  pub typed_from : (e : ℕ) (entity : Entity) → slice_get p.entities.items e ≡ Some entity → TypedFrom entity
  typed_from e entity at =
      let j = joined units h.numbers p.types in
      let (a, x, there, number) = h.entities.only e (slice_get_within p.entities.items e entity at) in
      elim (cases_Bool (is_external x)) [
        | inl its ↦
            let (y, y_is, linked) = h.entities.names a x there (external_is x its) in
            let same : y ≡ entity = some_one (sym y_is ∙ (ap (slice_get p.entities.items) number ∙ at)) in
            let found = maker_found j h.declarations x.name linked.declared linked.maker in
            let declaration = (h.declared.each linked.declared).0 found.contained in
            let one : declaration.entity ≡ linked.entity = some_one (sym declaration.entity_is ∙ linked.entity_is) in
            let named : linked.entity.name ≡ x.name = named_so units x.name linked.declared linked.entity found.passes linked.entity_is in
            let external : is_external linked.entity ≡ true = ap is_external (sym one) ∙ is_external_of declaration.entity declaration.external in
            let own = external_keeps units p h (item_of linked.declared) linked.entity y linked.entity_is external (subst (λ (n : List ℕ). IsLinkedName j h.declarations h.entity_numbers n y) (sym named) linked) in
            subst TypedFrom same (from_item (item_of linked.declared) linked.entity y linked.entity_is linked.moved own)
        | inr not_its ↦
            let (y, y_is, linked) = h.entities.others a x there (λ ex. false≢true (sym not_its ∙ is_external_of x ex)) in
            let same : y ≡ entity = some_one (sym y_is ∙ (ap (slice_get p.entities.items) number ∙ at)) in
            subst TypedFrom same
            (from_item a x y there linked.moved (subst (λ (t : Ctype). Keeps (type_in j a) t) (sym linked.type) (record { function = refl; result = refl; closed = λ c. refl })))
      ]
