-- Member lists of units: their types and tags are the unit's.
use Rattle.std.proofs.Common.{arith, ◌≡◌, ℕ, zero, suc, ◌<◌, inl, inr, List, [], ◌∷◌, length, refl, sym, subst, Option, Some, None, All}
use Rattle.std.specs.Prelude.{⊤}
use Rattle.std.specs.List.{slice_get}
use Rattle.std.proofs.lemmas.Bool.{cases_lt}
use Rattle.std.proofs.lemmas.List.{get_or_past}
use Rattle.std.proofs.lemmas.List.Elements.{All-head, All-tail}
use Rattle.c_types.specs.declared.term.Term.{Term}
use Rattle.c_types.specs.declared.term.Term.TheVariants.{Void, Bool as BoolTerm, Integer, Floating, VaList, Pointer, Array, Function, Structure, Union}
use Rattle.c_types.specs.declared.term.TypeId.{TypeId}
use Rattle.c_types.specs.declared.term.MemberTerm.{MemberTerm}
use Rattle.c_types.specs.Trees.{Ctype, VoidType, tree_at, trees_at, grow}
use Rattle.c_types.specs.Table.{Table, types_of, type_of, members_in, IsAfter, HasTag}
use Rattle.c_types.specs.Made.{AreNamed}
use Rattle.c_types.proofs.Grow.{grown_length}
use Rattle.core_tree.specs.declared.node.Unit.{Unit}
use Rattle.link_model.specs.declared.item.Item.{Item}
use Rattle.link_model.specs.Units.{types_if, types_in, list_at}
use Rattle.link_model.specs.Partition.{HasTags, AllHaveTags, MembersHaveTags, KnowsTags}
use Rattle.link_merge.specs.Tags.{AreMade}
use Rattle.link_merge.proofs.Terms.{type_is, term_at}

none_some : {X : Type 0} → {x : X} → ◌≡◌ {A = Option X} None (Some x) → ⊥
none_some h = cc

-- the types of a list's members are among the first so many
abbrev pub TypesIn : ℕ → List MemberTerm → Type 0
TypesIn n [] = ⊤
TypesIn n (m ∷ ms) = (m.ty.0 < n) × TypesIn n ms

types_in_each : (n : ℕ) (list : List MemberTerm) → ((k : ℕ) (m : MemberTerm) → slice_get list k ≡ Some m → m.ty.0 < n) → TypesIn n list
types_in_each n [] h = tt
types_in_each n (m ∷ ms) h = (h 0 m refl, types_in_each n ms (λ k x at. h (suc k) x at))

all_tags : (trees : List Ctype) (n i : ℕ) (ids : List TypeId) → ((j : ℕ) → j < i → HasTags n (tree_at trees j)) → All (λ id. id.0 < i) ids → AllHaveTags n (trees_at trees ids)
all_tags trees n i [] h all = tt
all_tags trees n i (id ∷ ids) h all = (h id.0 (All-head (λ id. id.0 < i) id ids all), all_tags trees n i ids h (All-tail (λ id. id.0 < i) id ids all))

grown_tags : (trees : List Ctype) (n i : ℕ) (t : Term) → ((j : ℕ) → j < i → HasTags n (tree_at trees j)) → IsAfter i t → HasTag n t → HasTags n (grow trees t)
grown_tags trees n i Void h after tag = tt
grown_tags trees n i BoolTerm h after tag = tt
grown_tags trees n i (Integer size rank signed) h after tag = tt
grown_tags trees n i Floating h after tag = tt
grown_tags trees n i VaList h after tag = tt
grown_tags trees n i (Pointer to) h after tag = h to.0 after
grown_tags trees n i (Array of m) h after tag = h of.0 after
grown_tags trees n i (Function result parameters form) h after tag = (h result.0 after.0, all_tags trees n i parameters h after.1)
grown_tags trees n i (Structure k) h after tag = tag
grown_tags trees n i (Union k) h after tag = tag

tags_below : (table : Table) → AreNamed table → (n i : ℕ) → i < n → HasTags table.tags (type_of table i)
tags_below table named zero i lt = absurd (omega arith)
tags_below table named (suc n) i lt = elim (cases_lt i (length table.terms)) [
  | inl known ↦
      let (t, at) = term_at table.terms i known in
      let (after, tag) = named i t at in
      subst (HasTags table.tags) (sym (type_is table i t named at)) (grown_tags (types_of table) table.tags i t (λ j less. tags_below table named n j (omega arith)) after tag)
  | inr past ↦
      let long = grown_length [] table.terms in
      let void : type_of table i ≡ VoidType = get_or_past (types_of table) i VoidType (omega arith) in
      subst (HasTags table.tags) (sym void) tt
]

pub type_tags : (table : Table) (i : ℕ) → AreNamed table → HasTags table.tags (type_of table i)
type_tags table i named = tags_below table named (suc i) i (omega arith)

-- a list of a unit's tag
pub record HasOwn (units : List Unit) (p : Item) (list : List MemberTerm) : Type 0 where
  pub unit : Unit
  pub unit_is : slice_get units p.unit ≡ Some unit
  pub members_are : members_in unit.types p.number ≡ Some list
  pub types : TypesIn (length unit.types.terms) list

pub own_list : (units : List Unit) (p : Item) (list : List MemberTerm) → AreMade units → list_at units p ≡ Some list → HasOwn units p list
own_list units p list made e = here (slice_get units p.unit) refl e
  where
    here : (o : Option Unit) → slice_get units p.unit ≡ o → members_in (types_if o) p.number ≡ Some list → HasOwn units p list
    here None at h = absurd (none_some h)
    here (Some x) at h = record {
      unit = x;
      unit_is = at;
      members_are = h;
      types = types_in_each (length x.types.terms) list (λ k m there. ((made.made p.unit x at).members p.number list h k m there).0);
    }

members_tags : (units : List Unit) (u : ℕ) (list : List MemberTerm) → AreNamed (types_in units u) → MembersHaveTags units u list
members_tags units u [] named = tt
members_tags units u (m ∷ ms) named = (type_tags (types_in units u) m.ty.0 named, members_tags units u ms named)

pub knows_tags : (units : List Unit) → AreMade units → KnowsTags units
knows_tags units made = record {
  each = λ p list e.
      let own = own_list units p list made e in
      members_tags units p.unit list (subst (λ (o : Option Unit). AreNamed (types_if o)) (sym own.unit_is) (made.named p.unit own.unit own.unit_is));
}
