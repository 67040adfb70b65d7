-- From one table that is merged from units to the table that is merged from their twins.
use Rattle.std.proofs.Common.{arith, ◌≡◌, ◌∙◌, ◌⊎◌, ◌<◌, ◌≤◌, ℕ, List, Option, Some, length, sym, ap, subst, inl, inr}
use Rattle.std.specs.List.{slice_get}
use Rattle.std.proofs.lemmas.Bool.{cases_lt}
use Rattle.c_types.specs.Table.{Table, type_of}
use Rattle.core_tree.specs.declared.node.Entity.{Entity}
use Rattle.core_tree.specs.declared.node.Unit.{Unit}
use Rattle.link_model.specs.declared.item.Item.{Item}
use Rattle.link_model.specs.Units.{item, IsTag, IsType, types_if}
use Rattle.link_model.specs.Renamed.{renamed}
use Rattle.link_model.specs.Apart.{One}
use Rattle.link_model.specs.Merged.{Numbering, tag_of, IsMerged}
use Rattle.link_merge.proofs.Own.{type_tags}
use Rattle.link_names.specs.Externals.{entity_at as entity_in, type_if, type_in}
use Rattle.unit_link.specs.Linked.{joined}
use Rattle.twin_report_laws.specs.outcome_laws.fault_laws.Twins.{AreAllTwins}
use Rattle.twin_report_laws.proofs.outcome_laws.fault_laws.Images.{renamed_twice}
use Rattle.twin_report_laws.proofs.outcome_laws.fault_laws.Tags.{Carries, turned_tags, one_there}
use Rattle.twin_report_laws.proofs.outcome_laws.fault_laws.Twinned.{Like, carries}

-- the type of an entity in the table, by its unit's table
pub type_moved : (us : List Unit) (n : Numbering) (table : Table) → IsMerged us n table → (a : Item) (x : Entity) (u : Unit) → entity_in us a ≡ Some x → slice_get us a.unit ≡ Some u → x.ty.0 < length u.types.terms
    → type_in (joined us n table) a ≡ renamed (n.tag a.unit) (type_of u.types x.ty.0)
type_moved us n table merged a x u at here within =
    let known : IsType us (item a.unit x.ty.0) = subst (λ (o : Option Unit). x.ty.0 < length (types_if o).terms) (sym here) within in
    ap (type_if (joined us n table) a.unit) at
    ∙ ((merged.types (item a.unit x.ty.0) known).type_is ∙ ap (λ (o : Option Unit). renamed (n.tag a.unit) (type_of (types_if o) x.ty.0)) here)

module _ (us vs : List Unit) (n m : Numbering) (table other : Table) (all : AreAllTwins us vs) (one : IsMerged us n table) (two : IsMerged vs m other) where
  there_by : (tag : ℕ) → (tag < table.tags) ⊎ (table.tags ≤ tag) → ℕ
  there_by tag (inl known) = let found = one.only tag known in tag_of m found.0
  there_by tag (inr past) = tag

  known_or : (tag : ℕ) → (tag < table.tags) ⊎ (table.tags ≤ tag)
  known_or tag = elim (cases_lt tag table.tags) [ inl less ↦ inl less | inr more ↦ inr (omega (arith, more)) ]

  -- the number there of a tag of the first table
  pub there : ℕ → ℕ
  there tag = there_by tag (known_or tag)

  pub tag_there : (a : Item) → IsTag us a → IsTag vs a
  tag_there a is = let c : Carries us vs = carries us vs all in subst (λ (k : ℕ). a.number < k) (c.tags a.unit) is

  there_one : (a : Item) → IsTag us a → (o : (tag_of n a < table.tags) ⊎ (table.tags ≤ tag_of n a)) → there_by (tag_of n a) o ≡ tag_of m a
  unfolding there_by
  there_one a is (inl known) =
      let found = one.only (tag_of n a) known in
      let c : Carries us vs = carries us vs all in
      let same : One us found.0 a = (one.one found.0 a found.1 is).0 found.2 in
      (two.one found.0 a (tag_there found.0 found.1) (tag_there a is)).1 (one_there us vs c (turned_tags us vs c) found.0 a same)
  there_one a is (inr past) = let known : tag_of n a < table.tags = one.within a is in absurd (omega (arith, known, past))

  pub there_tag : (a : Item) → IsTag us a → there (tag_of n a) ≡ tag_of m a
  unfolding there
  there_tag a is = there_one a is (known_or (tag_of n a))

  -- the type of an entity there is its type here, with the tags' numbers there
  pub type_there : (a : Item) (x : Entity) (h : Like us vs a x) → type_in (joined vs m other) (item a.unit h.number) ≡ renamed there (type_in (joined us n table) a)
  type_there a x h =
      let u = h.units.unit in
      let v = h.units.other in
      let t = type_of u.types x.ty.0 in
      let c : Carries us vs = carries us vs all in
      let first : type_in (joined us n table) a ≡ renamed (n.tag a.unit) t = type_moved us n table one a x u h.here h.units.first h.within in
      let second : type_in (joined vs m other) (item a.unit h.number) ≡ renamed (m.tag a.unit) (type_of v.types h.entity.ty.0) =
      type_moved vs m other two (item a.unit h.number) h.entity v h.there h.units.second h.other_within in
      let tags : (tag : ℕ) → tag < u.types.tags → there (n.tag a.unit tag) ≡ m.tag a.unit tag = λ tag less.
      there_tag (item a.unit tag) (subst (λ (o : Option Unit). tag < (types_if o).tags) (sym h.units.first) less) in
      let twice : renamed there (renamed (n.tag a.unit) t) ≡ renamed (m.tag a.unit) t =
      renamed_twice there (n.tag a.unit) (m.tag a.unit) u.types.tags tags t (type_tags u.types x.ty.0 h.units.twins.named) in
      second ∙ (ap (renamed (m.tag a.unit)) (sym h.type) ∙ (sym twice ∙ ap (renamed there) (sym first)))
