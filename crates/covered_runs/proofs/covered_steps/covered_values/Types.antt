-- The types along a path are those of the parts at it, and a member that may be named is a part.
use Rattle.std.proofs.Common.{◌≡◌, ◌∙◌, ℕ, Bool, true, false, List, [], ◌∷◌, Option, Some, None, refl, sym, ap}
use Rattle.std.specs.Option.{option_and_then}
use Rattle.c_types.specs.declared.term.MemberTerm.{MemberTerm}
use Rattle.c_types.specs.declared.term.PathStep.{PathStep}
use Rattle.c_types.specs.declared.term.PathStep.TheVariants.{Index, Member}
use Rattle.c_types.specs.Trees.{Ctype, VoidType, BoolType, IntegerType, FloatingType, VaListType, PointerTo, ArrayOf, FunctionFrom, StructureOf, UnionOf}
use Rattle.c_types.specs.Parts.{field_in}
use Rattle.c_types.specs.Paths.{with_length, member_type, part_type}
use Rattle.c_types.specs.Table.{Table, type_of, members_in}
use Rattle.type_rules.specs.Kinds.{LacksLength}
use Rattle.type_rules.specs.Members.{IsMemberOf, in_list}
use Rattle.obj_space.specs.Spots.{Reached, member_reached, step_by, part_at}
use Rattle.obj_space.proofs.Followed.{step_member, no_part}
use Rattle.ref_places.specs.Parts.{step_type, along}

pub none_some : {X : Type 0} → {x : X} → ◌≡◌ {A = Option X} None (Some x) → ⊥
none_some h = cc

pub some_one : {X : Type 0} → {x y : X} → ◌≡◌ {A = Option X} (Some x) (Some y) → x ≡ y
some_one h = cc

module _ (table : Table) where
  index_along : (t : Ctype) (node : ℕ) (inside : Bool) (i : ℕ) (q : Reached) → step_by table t node inside (Index i) ≡ Some q → step_type table t (Index i) ≡ Some q.ty
  index_along (ArrayOf of n) node inside i q e = ap (λ (r : Reached). Some r.ty) (some_one e)
  index_along VoidType node inside i q e = absurd (none_some e)
  index_along BoolType node inside i q e = absurd (none_some e)
  index_along (IntegerType size rank signed) node inside i q e = absurd (none_some e)
  index_along FloatingType node inside i q e = absurd (none_some e)
  index_along VaListType node inside i q e = absurd (none_some e)
  index_along (PointerTo to) node inside i q e = absurd (none_some e)
  index_along (FunctionFrom r ps f) node inside i q e = absurd (none_some e)
  index_along (StructureOf tag) node inside i q e = absurd (none_some e)
  index_along (UnionOf tag) node inside i q e = absurd (none_some e)

  type_member : (t : Ctype) (k : ℕ) → step_type table t (Member k) ≡ part_type table t (Member k)
  type_member (ArrayOf of n) k = refl
  type_member VoidType k = refl
  type_member BoolType k = refl
  type_member (IntegerType size rank signed) k = refl
  type_member FloatingType k = refl
  type_member VaListType k = refl
  type_member (PointerTo to) k = refl
  type_member (FunctionFrom r ps f) k = refl
  type_member (StructureOf tag) k = refl
  type_member (UnionOf tag) k = refl

  member_is : (t : Ctype) (w : Option Ctype) (place : Option ℕ) (node : ℕ) (inside : Bool) (q : Reached) → member_reached t w place node inside ≡ Some q → w ≡ Some q.ty
  member_is t None place node inside q e = absurd (none_some e)
  member_is t (Some s) place node true q e = ap (λ (r : Reached). Some r.ty) (some_one e)
  member_is t (Some s) None node false q e = absurd (none_some e)
  member_is t (Some s) (Some p) node false q e = ap (λ (r : Reached). Some r.ty) (some_one e)

  step_along : (t : Ctype) (node : ℕ) (inside : Bool) (step : PathStep) (q : Reached) → step_by table t node inside step ≡ Some q → step_type table t step ≡ Some q.ty
  step_along t node inside (Index i) q e = index_along t node inside i q e
  step_along t node inside (Member k) q e =
      type_member t k ∙ member_is t (part_type table t (Member k)) (field_in table t k) node inside q (sym (step_member table t node inside k) ∙ e)

  -- the type along a path is that of the part there
  pub along_part : (path : List PathStep) (r q : Reached) → part_at table (Some r) path ≡ Some q → along table (Some r.ty) path ≡ Some q.ty
  along_part [] r q e = ap (λ (x : Reached). Some x.ty) (some_one e)
  along_part (step ∷ rest) r q e = by (step_by table r.ty r.node r.inside step) refl e (λ s f. along_part rest s q f)
    where
      by : (o : Option Reached) → step_by table r.ty r.node r.inside step ≡ o → part_at table o rest ≡ Some q → ((s : Reached) → part_at table (Some s) rest ≡ Some q → along table (Some s.ty) rest ≡ Some q.ty)
          → along table (step_type table r.ty step) rest ≡ Some q.ty
      by None is f next = absurd (none_some (sym (no_part table rest) ∙ f))
      by (Some s) is f next = ap (λ (o : Option Ctype). along table o rest) (step_along r.ty r.node r.inside step s is) ∙ next s f

  -- a type that is no array without a length
  pub long : (t : Ctype) → (LacksLength t → ⊥) → with_length t ≡ Some t
  long (ArrayOf of None) h = absurd (h tt)
  long (ArrayOf of (Some n)) h = refl
  long VoidType h = refl
  long BoolType h = refl
  long (IntegerType size rank signed) h = refl
  long FloatingType h = refl
  long VaListType h = refl
  long (PointerTo to) h = refl
  long (FunctionFrom r ps f) h = refl
  long (StructureOf tag) h = refl
  long (UnionOf tag) h = refl

  listed : (o : Option (List MemberTerm)) (k : ℕ) (m : MemberTerm) (t : Ctype) → in_list o k ≡ Some m → type_of table m.ty.0 ≡ t → (LacksLength t → ⊥) → member_type table o k ≡ Some t
  listed None k m t e is full = absurd (none_some e)
  listed (Some ms) k m t e is full =
      ap (λ (o : Option MemberTerm). option_and_then (λ m. with_length (type_of table m.ty.0)) o) e ∙ (ap with_length is ∙ long t full)

  -- member k of a structure or union
  pub member_part : (whole : Ctype) (k : ℕ) (t : Ctype) → IsMemberOf table whole k t → (LacksLength t → ⊥) → part_type table whole (Member k) ≡ Some t
  member_part (StructureOf tag) k t h full = listed (members_in table tag) k h.member t h.stands h.type full
  member_part (UnionOf tag) k t h full = listed (members_in table tag) k h.member t h.stands h.type full
  member_part VoidType k t h full = absurd (none_some h.stands)
  member_part BoolType k t h full = absurd (none_some h.stands)
  member_part (IntegerType size rank signed) k t h full = absurd (none_some h.stands)
  member_part FloatingType k t h full = absurd (none_some h.stands)
  member_part VaListType k t h full = absurd (none_some h.stands)
  member_part (PointerTo to) k t h full = absurd (none_some h.stands)
  member_part (ArrayOf of n) k t h full = absurd (none_some h.stands)
  member_part (FunctionFrom r ps f) k t h full = absurd (none_some h.stands)
