-- Each complete structure or union of a merged table has a size.
use Rattle.std.proofs.Common.{◌≡◌, ◌∙◌, ℕ, ◌<◌, List, Option, Some, None, IsSome, is_some, length, slice_get, refl, sym, ap, subst, inl, inr}
use Rattle.std.specs.Option.{option_map}
use Rattle.std.proofs.lemmas.Bool.{cases_Bool, false≢true}
use Rattle.std.proofs.lemmas.Option.{slice_get_within}
use Rattle.c_types.specs.declared.term.Term.TheVariants.{Structure, Union}
use Rattle.c_types.specs.declared.term.MemberTerm.{MemberTerm}
use Rattle.c_types.specs.Trees.{Ctype, StructureOf, UnionOf}
use Rattle.c_types.specs.Layout.{Extent, of_members, structure_of, union_of}
use Rattle.c_types.specs.Table.{Table, type_of, look_in, extent_in, extents_in, members_in, size_below, nodes_within}
use Rattle.c_types.specs.Made.{IsMade, AreNamed}
use Rattle.type_rules.specs.Kinds.{IsAggregate}
use Rattle.type_rules.specs.Sizes.{IsObject, HasSize, TagsHaveSizes}
use Rattle.core_tree.specs.declared.node.Unit.{Unit}
use Rattle.link_model.specs.declared.item.Item.{Item}
use Rattle.link_model.specs.Units.{item, types_if, IsTag}
use Rattle.link_model.specs.Apart.{CountsAs}
use Rattle.link_model.specs.Merged.{Numbering, moved, tag_of, IsMerged}
use Rattle.linked_laws.specs.merged_laws.Merged.{AreTables, AreSizes}
use Rattle.linked_laws.specs.sized_laws.Sizes.{AreKeyed}
use Rattle.linked_laws.proofs.merged_laws.Terms.{type_of_term, union_term, structure_term}
use Rattle.linked_laws.proofs.sized_laws.Extents.{ListsAlike, of_structure, of_union}
use Rattle.linked_laws.proofs.sized_laws.Moving.{lists_alike, sized_alike, list_alike}
use Rattle.linked_laws.proofs.sized_laws.Counting.{some_one, none_some, one_tag}

size_stable : (table : Table) (t : Ctype) → ((HasSize table t → ⊥) → ⊥) → HasSize table t
size_stable table t h = elim (cases_Bool (is_some (size_below (extent_in table t)))) [
  | inl one ↦ elim (cases_Bool (is_some (nodes_within (extent_in table t)))) [
    | inl two ↦ (one, two)
    | inr none ↦ absurd (h (λ s. false≢true (sym none ∙ s.1)))
  ]
  | inr none ↦ absurd (h (λ s. false≢true (sym none ∙ s.0)))
]

some_members : (g : List Extent → Extent) (o : Option (List Extent)) → IsSome (of_members g o) → IsSome o
some_members g None h = h
some_members g (Some es) h = refl

module _ (units : List Unit) (n : Numbering) (table : Table) (tables : AreTables units) (sizes : AreSizes units) (keyed : AreKeyed units) (made : IsMade table) (named : AreNamed table) (merged : IsMerged units n table) where
  -- a complete tag has a list
  listed : (tag : ℕ) → IsSome (look_in table tag) → (ms : List MemberTerm) × (members_in table tag ≡ Some ms)
  listed tag h = by (members_in table tag) refl (made.laid tag)
    where
      by : (o : Option (List MemberTerm)) → members_in table tag ≡ o → look_in table tag ≡ option_map (extents_in table) o → (ms : List MemberTerm) × (members_in table tag ≡ Some ms)
      by None e laid = absurd (false≢true (sym (ap is_some laid) ∙ h))
      by (Some ms) e laid = (ms, e)

  -- a type of a unit in the table
  there : (u : ℕ) (x : Unit) (i : ℕ) (t : Ctype) → slice_get units u ≡ Some x → i < length x.types.terms → type_of x.types i ≡ t → (id : ℕ) × (id < length table.terms) × (type_of table id ≡ moved n u t)
  there u x i t is lt e =
      let has = merged.types (item u i) (subst (λ (o : Option Unit). i < length (types_if o).terms) (sym is) lt) in
      (n.type u i, has.within, has.type_is ∙ (ap (λ (o : Option Unit). moved n u (type_of (types_if o) i)) is ∙ ap (moved n u) e))

  module _ (tag id : ℕ) (id_lt : id < length table.terms) (ms : List MemberTerm) (ms_are : members_in table tag ≡ Some ms) (a b : Item) (list : List MemberTerm) (counts : CountsAs units a b list) (x : Unit) (is : slice_get units b.unit ≡ Some x)
      (number : tag_of n b ≡ tag) (own_is : members_in x.types b.number ≡ Some list) (alike : ListsAlike (look_in x.types b.number) (look_in table tag)) where
    own : IsMade x.types
    own = tables.made b.unit x is

    own_look : look_in x.types b.number ≡ Some (extents_in x.types list)
    own_look = own.laid b.number ∙ ap (option_map (extents_in x.types)) own_is

    -- the unit's structure has a size, and so has the table's
    structure_sized : (i : ℕ) → slice_get x.types.terms i ≡ Some (Structure b.number) → HasSize table (StructureOf tag)
    structure_sized i at =
        let lt = slice_get_within x.types.terms i (Structure b.number) at in
        let type : type_of x.types i ≡ StructureOf b.number = (type_of_term x.types i (Structure b.number) at).1 in
        let complete : IsObject x.types (type_of x.types i) = ap is_some (ap (extent_in x.types) type ∙ ap (of_members (structure_of (StructureOf b.number))) own_look) in
        let sized = (sizes.each b.unit x is) i lt (subst IsAggregate (sym type) tt) complete in
        sized_alike x.types table (StructureOf b.number) (StructureOf tag) (of_structure (StructureOf b.number) (StructureOf tag) (look_in x.types b.number) (look_in table tag) alike) (subst (HasSize x.types) type sized)

    union_sized : (i : ℕ) → slice_get x.types.terms i ≡ Some (Union b.number) → HasSize table (UnionOf tag)
    union_sized i at =
        let lt = slice_get_within x.types.terms i (Union b.number) at in
        let type : type_of x.types i ≡ UnionOf b.number = (type_of_term x.types i (Union b.number) at).1 in
        let complete : IsObject x.types (type_of x.types i) = ap is_some (ap (extent_in x.types) type ∙ ap (of_members (union_of (UnionOf b.number))) own_look) in
        let sized = (sizes.each b.unit x is) i lt (subst IsAggregate (sym type) tt) complete in
        sized_alike x.types table (UnionOf b.number) (UnionOf tag) (of_union (UnionOf b.number) (UnionOf tag) (look_in x.types b.number) (look_in table tag) alike) (subst (HasSize x.types) type sized)

    structure_by : type_of table id ≡ StructureOf tag → HasSize table (StructureOf tag)
    structure_by type = elim (own.stands b.number list own_is) [
      | inl s ↦ structure_sized s.0 s.1
      | inr s ↦
          let (other, lt, e) = there b.unit x s.0 (UnionOf b.number) is (slice_get_within x.types.terms s.0 (Union b.number) s.1) (type_of_term x.types s.0 (Union b.number) s.1).1 in
          absurd (made.apart.each id other tag (structure_term table id tag id_lt type) (union_term table other tag lt (e ∙ ap (λ (k : ℕ). UnionOf k) number)))
    ]

    union_by : type_of table id ≡ UnionOf tag → HasSize table (UnionOf tag)
    union_by type = elim (own.stands b.number list own_is) [
      | inl s ↦
          let (other, lt, e) = there b.unit x s.0 (StructureOf b.number) is (slice_get_within x.types.terms s.0 (Structure b.number) s.1) (type_of_term x.types s.0 (Structure b.number) s.1).1 in
          absurd (made.apart.each other id tag (structure_term table other tag lt (e ∙ ap (λ (k : ℕ). StructureOf k) number)) (union_term table id tag id_lt type))
      | inr s ↦ union_sized s.0 s.1
    ]

  -- the unit whose list counts
  module _ (t : Ctype) (tag id : ℕ) (within : tag < table.tags) (id_lt : id < length table.terms) (type : type_of table id ≡ t) (ms : List MemberTerm) (ms_are : members_in table tag ≡ Some ms)
      (by_kind : (a b : Item) (list : List MemberTerm) → CountsAs units a b list → (x : Unit) (is : slice_get units b.unit ≡ Some x) → tag_of n b ≡ tag → members_in x.types b.number ≡ Some list → ListsAlike (look_in x.types b.number) (look_in table tag)
      → HasSize table t) where
    counted : (a : Item) → tag_of n a ≡ tag → (b : Item) (list : List MemberTerm) → IsTag units a → CountsAs units a b list → HasSize table t
    counted a number b list is_tag counts = by (slice_get units b.unit) refl
      where
        by : (o : Option Unit) → slice_get units b.unit ≡ o → HasSize table t
        by None is = absurd (none_some (sym (ap (λ (o : Option Unit). members_in (types_if o) b.number) is) ∙ counts.list_is))
        by (Some x) is =
            let own_is : members_in x.types b.number ≡ Some list = sym (ap (λ (o : Option Unit). members_in (types_if o) b.number) is) ∙ counts.list_is in
            let l = merged.lists a b list is_tag counts in
            let here : l.members ≡ ms = some_one (sym l.members_are ∙ (ap (members_in table) number ∙ ms_are)) in
            let large = list_alike units n table tables made merged b.unit x is b.number list own_is l.members l.moved in
            let alike = lists_alike (look_in x.types b.number) (look_in table tag) (extents_in x.types list) (extents_in table l.members) ((tables.made b.unit x is).laid b.number ∙ ap (option_map (extents_in x.types)) own_is)
            (made.laid tag ∙ (ap (option_map (extents_in table)) ms_are ∙ sym (ap (λ (ks : List MemberTerm). Some (extents_in table ks)) here))) large in
            by_kind a b list counts x is (sym (one_tag units keyed n table tables merged a b list is_tag counts) ∙ number) own_is alike

    has_size : HasSize table t
    has_size =
        let (a, is_tag, number) = merged.only tag within in
        size_stable table t (λ no.
        none_some (sym (merged.without a is_tag (λ b list counts. no (counted a number b list is_tag counts))) ∙ (ap (members_in table) number ∙ ms_are)))

  by_type : (id : ℕ) → id < length table.terms → (t : Ctype) → type_of table id ≡ t → IsAggregate t → IsObject table t → HasSize table t
  by_type id lt (StructureOf tag) e agg object =
      let (ms, ms_are) = listed tag (some_members (structure_of (StructureOf tag)) (look_in table tag) object) in
      let within = (named id (Structure tag) (structure_term table id tag lt e)).1 in
      has_size (StructureOf tag) tag id within lt e ms ms_are (λ a b list counts x is number own_is alike. structure_by tag id lt ms ms_are a b list counts x is number own_is alike e)
  by_type id lt (UnionOf tag) e agg object =
      let (ms, ms_are) = listed tag (some_members (union_of (UnionOf tag)) (look_in table tag) object) in
      let within = (named id (Union tag) (union_term table id tag lt e)).1 in
      has_size (UnionOf tag) tag id within lt e ms ms_are (λ a b list counts x is number own_is alike. union_by tag id lt ms ms_are a b list counts x is number own_is alike e)
  by_type id lt t e agg object = absurd agg

  pub tags_sized : TagsHaveSizes table
  tags_sized id lt agg object = by_type id lt (type_of table id) refl agg object
