-- Units that are twins, by their positions.
use Rattle.std.proofs.Common.{arith, ◌≡◌, ◌∙◌, ◌⊎◌, ◌<◌, ◌≤◌, ℕ, Bool, List, Option, Some, None, is_some, length, get_or, refl, sym, ap, subst, inl, inr}
use Rattle.std.specs.Prelude.{option_map}
use Rattle.std.specs.List.{slice_get}
use Rattle.std.proofs.lemmas.Bool.{cases_lt}
use Rattle.std.proofs.lemmas.Option.{slice_get_within, slice_get-get_or, slice_get_past}
use Rattle.c_types.specs.Table.{type_of, members_in}
use Rattle.c_inits.specs.Tables.{parts_in}
use Rattle.core_tree.specs.declared.node.Entity.{Entity}
use Rattle.core_tree.specs.declared.node.Storage.{Storage}
use Rattle.core_tree.specs.declared.node.Unit.{Unit}
use Rattle.core_tree.specs.Typed.{trees_of}
use Rattle.core_tree.specs.Valid.{IsLocal, entity_at}
use Rattle.link_model.specs.declared.item.Item.{Item}
use Rattle.link_model.specs.Units.{item, IsTag, types_if, types_in, list_at, keys_if, key_if, Label, label_at}
use Rattle.link_names.specs.Externals.{entities_if, IsExternal, entity_at as entity_in}
use Rattle.parsed_tree_laws.specs.reading_laws.right_laws.Alike.{SameBodies}
use Rattle.twin_report_laws.specs.outcome_laws.fault_laws.Twins.{has_union, AreTwins, AreAllTwins}
use Rattle.twin_report_laws.proofs.outcome_laws.fault_laws.Tags.{Carries}

none_some : {X : Type 0} → {x : X} → ◌≡◌ {A = Option X} None (Some x) → ⊥
none_some h = cc

some_one : {X : Type 0} → {x y : X} → ◌≡◌ {A = Option X} (Some x) (Some y) → x ≡ y
some_one h = cc

pub turned_twins : (u v : Unit) → AreTwins u v → AreTwins v u
turned_twins u v t =
    let a = t.alike in
    let fewer = λ (tag : ℕ) (h : tag < v.types.tags). subst (λ (n : ℕ). tag < n) (sym a.tags) h in
    record {
      alike = record {
        named = sym a.named;
        tags = sym a.tags;
        members = λ tag h. sym (a.members tag (fewer tag h));
        keys = λ tag h. sym (a.keys tag (fewer tag h));
        entity_count = sym a.entity_count;
        node_count = sym a.node_count;
        one = a.other;
        other = a.one;
        one_once = a.other_once;
        other_once = a.one_once;
        forth = a.back;
        back = a.forth;
      };
      keywords = λ tag h. sym (t.keywords tag (fewer tag h));
      valid = t.other_valid;
      other_valid = t.valid;
      named = t.other_named;
      other_named = t.named;
      places = t.other_places;
      other_places = t.places;
    }

pub turned_all : (us vs : List Unit) → AreAllTwins us vs → AreAllTwins vs us
turned_all us vs h = record { many = sym h.many; each = λ k u v at other. turned_twins v u (h.each k v u other at) }

-- the units in one position
pub record AreAt (us vs : List Unit) (k : ℕ) : Type 0 where
  pub unit : Unit
  pub other : Unit
  pub first : slice_get us k ≡ Some unit
  pub second : slice_get vs k ≡ Some other
  pub twins : AreTwins unit other

pub at_unit : (us vs : List Unit) → AreAllTwins us vs → (k : ℕ) (u : Unit) → slice_get us k ≡ Some u → AreAt us vs k
at_unit us vs h k u at =
    let within : k < length vs = subst (λ (n : ℕ). k < n) h.many (slice_get_within us k u at) in
    let other : slice_get vs k ≡ Some (get_or vs k u) = slice_get-get_or vs k u within in
    record { unit = u; other = get_or vs k u; first = at; second = other; twins = h.each k u (get_or vs k u) at other }

pub both_at : (us vs : List Unit) → AreAllTwins us vs → (k : ℕ) → ((slice_get us k ≡ None) × (slice_get vs k ≡ None)) ⊎ AreAt us vs k
both_at us vs h k = elim (cases_lt k (length us)) [
  | inl less ↦ by (slice_get us k) refl
  | inr more ↦ by (slice_get us k) refl
]
  where
    by : (o : Option Unit) → slice_get us k ≡ o → ((slice_get us k ≡ None) × (slice_get vs k ≡ None)) ⊎ AreAt us vs k
    by (Some u) at = inr (at_unit us vs h k u at)
    by None at = inl (at, past (slice_get vs k) refl)
      where
        past : (o : Option Unit) → slice_get vs k ≡ o → slice_get vs k ≡ None
        past None e = e
        past (Some v) e = let there : AreAt vs us k = at_unit vs us (turned_all us vs h) k v e in absurd (none_some (sym at ∙ there.second))

-- the label of a tag, by its unit
label_of : Option Unit → ℕ → Option Label
label_of o n = option_map (λ key. record { union = has_union (types_if o) n; key = key }) (key_if (slice_get (keys_if o) n))

no_label : (u : Unit) (n : ℕ) → length u.tags.items ≤ n → label_of (Some u) n ≡ None
unfolding label_of
no_label u n le = ap (λ (k : Option (Option (List ℕ))). option_map (λ (key : List ℕ). let l : Label = record { union = has_union u.types n; key = key } in l) (key_if k)) (slice_get_past u.tags.items n le)

same_label : (u v : Unit) → AreTwins u v → (n : ℕ) → label_of (Some u) n ≡ label_of (Some v) n
unfolding label_of
same_label u v t n = elim (cases_lt n u.types.tags) [
  | inl less ↦
      ap (λ (b : Bool). option_map (λ (key : List ℕ). let l : Label = record { union = b; key = key } in l) (key_if (slice_get u.tags.items n))) (t.keywords n less)
      ∙ ap (λ (k : Option (Option (List ℕ))). option_map (λ (key : List ℕ). let l : Label = record { union = has_union v.types n; key = key } in l) (key_if k)) (t.alike.keys n less)
  | inr more ↦
      let here : length u.tags.items ≡ u.types.tags = t.valid.keys.each in
      let there : length v.tags.items ≡ v.types.tags = t.other_valid.keys.each in
      let tags : u.types.tags ≡ v.types.tags = t.alike.tags in
      no_label u n (omega (arith, here, more)) ∙ sym (no_label v n (omega (arith, there, tags, more)))
]

pub carries : (us vs : List Unit) → AreAllTwins us vs → Carries us vs
unfolding label_of
carries us vs h = record {
  tags = λ k. tags_at k (both_at us vs h k);
  labels = λ a. labels_at a (both_at us vs h a.unit);
  bounded = λ a label e. bounded_at a label (both_at us vs h a.unit) e;
  lists = λ a is. lists_at a is (both_at us vs h a.unit);
}
  where
    tags_at : (k : ℕ) → ((slice_get us k ≡ None) × (slice_get vs k ≡ None)) ⊎ AreAt us vs k → (types_in us k).tags ≡ (types_in vs k).tags
    tags_at k (inl h) = ap (λ (o : Option Unit). (types_if o).tags) (h.0 ∙ sym h.1)
    tags_at k (inr h) = ap (λ (o : Option Unit). (types_if o).tags) h.first ∙ (h.twins.alike.tags ∙ sym (ap (λ (o : Option Unit). (types_if o).tags) h.second))

    labels_at : (a : Item) → ((slice_get us a.unit ≡ None) × (slice_get vs a.unit ≡ None)) ⊎ AreAt us vs a.unit → label_at us a ≡ label_at vs a
    labels_at a (inl h) = ap (λ (o : Option Unit). label_of o a.number) (h.0 ∙ sym h.1)
    labels_at a (inr h) = ap (λ (o : Option Unit). label_of o a.number) h.first ∙ (same_label h.unit h.other h.twins a.number ∙ sym (ap (λ (o : Option Unit). label_of o a.number) h.second))

    within : (u : Unit) (n : ℕ) (label : Label) → length u.tags.items ≡ u.types.tags → label_of (Some u) n ≡ Some label → n < u.types.tags
    within u n label same e = elim (cases_lt n u.types.tags) [
      | inl less ↦ less
      | inr more ↦ absurd (none_some (sym (no_label u n (omega (arith, same, more))) ∙ e))
    ]

    bounded_at : (a : Item) (label : Label) → ((slice_get us a.unit ≡ None) × (slice_get vs a.unit ≡ None)) ⊎ AreAt us vs a.unit → label_at us a ≡ Some label → IsTag us a
    bounded_at a label (inl h) e = absurd (none_some (sym (ap (λ (o : Option Unit). label_of o a.number) h.0) ∙ e))
    bounded_at a label (inr h) e =
        subst (λ (o : Option Unit). a.number < (types_if o).tags) (sym h.first)
        (within h.unit a.number label h.twins.valid.keys.each (sym (ap (λ (o : Option Unit). label_of o a.number) h.first) ∙ e))

    lists_at : (a : Item) → IsTag us a → ((slice_get us a.unit ≡ None) × (slice_get vs a.unit ≡ None)) ⊎ AreAt us vs a.unit
        → parts_in (types_in us a.unit) (list_at us a) ≡ parts_in (types_in vs a.unit) (list_at vs a)
    lists_at a is (inl h) = ap (λ (o : Option Unit). parts_in (types_if o) (members_in (types_if o) a.number)) (h.0 ∙ sym h.1)
    lists_at a is (inr h) =
        let less : a.number < h.unit.types.tags = subst (λ (o : Option Unit). a.number < (types_if o).tags) h.first is in
        ap (λ (o : Option Unit). parts_in (types_if o) (members_in (types_if o) a.number)) h.first
        ∙ (h.twins.alike.members a.number less ∙ sym (ap (λ (o : Option Unit). parts_in (types_if o) (members_in (types_if o) a.number)) h.second))

-- an entity of the first units, and its like in the second ones
pub record Like (us vs : List Unit) (a : Item) (x : Entity) : Type 0 where
  pub number : ℕ
  pub entity : Entity
  pub here : entity_in us a ≡ Some x
  pub there : entity_in vs (item a.unit number) ≡ Some entity
  pub name : x.name ≡ entity.name
  pub unit_is : x.unit ≡ entity.unit
  pub place : x.place ≡ entity.place
  pub linkage : x.linkage ≡ entity.linkage
  pub storage : x.storage ≡ entity.storage
  pub used : x.used ≡ entity.used
  pub body : is_some x.body ≡ is_some entity.body
  pub units : AreAt us vs a.unit
  pub type : type_of units.unit.types x.ty.0 ≡ type_of units.other.types entity.ty.0
  pub within : x.ty.0 < length units.unit.types.terms
  pub other_within : entity.ty.0 < length units.other.types.terms

-- the unit of an entity
pub record HasUnit (us : List Unit) (a : Item) (x : Entity) : Type 0 where
  pub unit : Unit
  pub at : slice_get us a.unit ≡ Some unit
  pub stands : slice_get unit.entities.items a.number ≡ Some x

pub has_unit : (us : List Unit) (a : Item) (x : Entity) → entity_in us a ≡ Some x → HasUnit us a x
has_unit us a x h = by (slice_get us a.unit) refl h
  where
    by : (o : Option Unit) → slice_get us a.unit ≡ o → slice_get (entities_if o) a.number ≡ Some x → HasUnit us a x
    by None e h = absurd (none_some h)
    by (Some u) e h = record { unit = u; at = e; stands = h }

bodies : (one other : ℕ → Option ℕ) (u v : Unit) (a b : Option ℕ) → SameBodies one other u v a b → is_some a ≡ is_some b
bodies one other u v None None h = refl
bodies one other u v None (Some j) h = absurd h
bodies one other u v (Some i) None h = absurd h
bodies one other u v (Some i) (Some j) h = refl

pub like : (us vs : List Unit) → AreAllTwins us vs → (a : Item) (x : Entity) → entity_in us a ≡ Some x → Like us vs a x
unfolding at_unit has_unit
like us vs all a x h =
    let own : HasUnit us a x = has_unit us a x h in
    let both : AreAt us vs a.unit = at_unit us vs all a.unit own.unit own.at in
    let stands : entity_at (trees_of both.unit) a.number ≡ Some x = own.stands in
    let found = both.twins.alike.forth.entities a.number x stands in
    let same = found.same in
    record {
      number = found.number;
      entity = found.entity;
      here = h;
      there = ap (λ (o : Option Unit). slice_get (entities_if o) found.number) both.second ∙ found.stands;
      name = same.name;
      unit_is = same.unit_is;
      place = same.place;
      linkage = same.linkage;
      storage = same.storage;
      used = same.used;
      body = bodies both.twins.alike.one both.twins.alike.other both.unit both.other x.body found.entity.body same.body;
      units = both;
      type = same.type;
      within = both.twins.valid.trees.in_range.entity_types a.number x stands;
      other_within = both.twins.other_valid.trees.in_range.entity_types found.number found.entity found.stands;
    }

pub external_there : (us vs : List Unit) (a : Item) (x : Entity) (h : Like us vs a x) → IsExternal x → IsExternal h.entity
external_there us vs a x h e = record { linkage = sym h.linkage ∙ e.linkage; lasting = λ l. e.lasting (subst (λ (s : Storage). IsLocal s) (sym h.storage) l) }

pub external_here : (us vs : List Unit) (a : Item) (x : Entity) (h : Like us vs a x) → IsExternal h.entity → IsExternal x
external_here us vs a x h e = record { linkage = h.linkage ∙ e.linkage; lasting = λ l. e.lasting (subst (λ (s : Storage). IsLocal s) h.storage l) }
