-- The type at the end of a path in a unit, and in the table.
use Rattle.std.proofs.Common.{◌≡◌, ◌∙◌, ℕ, Bool, true, false, cond, List, [], ◌∷◌, Option, Some, None, slice_get, refl, ap}
use Rattle.std.specs.Prelude.{nat_lt}
use Rattle.std.specs.Option.{option_and_then}
use Rattle.c_types.specs.declared.term.MemberTerm.{MemberTerm}
use Rattle.c_types.specs.declared.term.PathStep.{PathStep}
use Rattle.c_types.specs.declared.term.PathStep.TheVariants.{Index, Member}
use Rattle.c_types.specs.Trees.{Ctype, VoidType, BoolType, IntegerType, FloatingType, VaListType, PointerTo, ArrayOf, FunctionFrom, StructureOf, UnionOf}
use Rattle.c_types.specs.Table.{Table, type_of, members_in}
use Rattle.c_types.specs.Paths.{with_length, member_type, part_type, type_at_path}
use Rattle.type_rules.specs.Members.{in_list}
use Rattle.core_tree.specs.declared.node.Unit.{Unit}
use Rattle.link_model.specs.Renamed.{renamed}
use Rattle.link_model.specs.Merged.{Numbering, moved, IsMerged}
use Rattle.linked_laws.specs.alike_laws.Alike.{IsClosed}
use Rattle.linked_laws.specs.merged_laws.Merged.{AreTables}
use Rattle.linked_laws.proofs.merged_laws.Members.{member_moved}

some_one : {X : Type 0} → {x y : X} → ◌≡◌ {A = Option X} (Some x) (Some y) → x ≡ y
some_one h = cc

none_some : {X : Type 0} → {x : X} → ◌≡◌ {A = Option X} None (Some x) → ⊥
none_some h = cc

pub path_none : (table : Table) (path : List PathStep) (s : Ctype) → type_at_path table None path ≡ Some s → ⊥
path_none table [] s e = none_some e
path_none table (step ∷ rest) s e = path_none table rest s e

-- a type that is not closed has no parts
pub part_closed : (table : Table) (t : Ctype) (step : PathStep) (s : Ctype) → part_type table t step ≡ Some s → IsClosed t
part_closed table (ArrayOf of (Some n)) step s e = tt
part_closed table (StructureOf tag) step s e = tt
part_closed table (UnionOf tag) step s e = tt
part_closed table (ArrayOf of None) step s e = absurd (none_some e)
part_closed table (FunctionFrom r ps f) step s e = absurd (none_some e)
part_closed table t step s e = tt

length_renamed : (f : ℕ → ℕ) (t s : Ctype) → with_length t ≡ Some s → with_length (renamed f t) ≡ Some (renamed f s)
length_renamed f (ArrayOf of None) s e = absurd (none_some e)
length_renamed f (ArrayOf of (Some n)) s e = ap (λ (x : Ctype). Some (renamed f x)) (some_one e)
length_renamed f VoidType s e = ap (λ (x : Ctype). Some (renamed f x)) (some_one e)
length_renamed f BoolType s e = ap (λ (x : Ctype). Some (renamed f x)) (some_one e)
length_renamed f (IntegerType size rank signed) s e = ap (λ (x : Ctype). Some (renamed f x)) (some_one e)
length_renamed f FloatingType s e = ap (λ (x : Ctype). Some (renamed f x)) (some_one e)
length_renamed f VaListType s e = ap (λ (x : Ctype). Some (renamed f x)) (some_one e)
length_renamed f (PointerTo to) s e = ap (λ (x : Ctype). Some (renamed f x)) (some_one e)
length_renamed f (FunctionFrom r ps form) s e = ap (λ (x : Ctype). Some (renamed f x)) (some_one e)
length_renamed f (StructureOf tag) s e = ap (λ (x : Ctype). Some (renamed f x)) (some_one e)
length_renamed f (UnionOf tag) s e = ap (λ (x : Ctype). Some (renamed f x)) (some_one e)

-- a part that is a member
record IsPart (table : Table) (o : Option (List MemberTerm)) (k : ℕ) (s : Ctype) : Type 0 where
  member : MemberTerm
  stands : in_list o k ≡ Some member
  type : with_length (type_of table member.ty.0) ≡ Some s

part_at : (table : Table) (ms : List MemberTerm) (k : ℕ) (s : Ctype) (om : Option MemberTerm) → slice_get ms k ≡ om → option_and_then (λ (m : MemberTerm). with_length (type_of table m.ty.0)) om ≡ Some s → IsPart table (Some ms) k s
part_at table ms k s None at e = absurd (none_some e)
part_at table ms k s (Some m) at e = record { member = m; stands = at; type = e }

part_of : (table : Table) (o : Option (List MemberTerm)) (k : ℕ) (s : Ctype) → member_type table o k ≡ Some s → IsPart table o k s
part_of table None k s e = absurd (none_some e)
part_of table (Some ms) k s e = part_at table ms k s (slice_get ms k) refl e

part_is : (table : Table) (o : Option (List MemberTerm)) (k : ℕ) (m : MemberTerm) → in_list o k ≡ Some m → member_type table o k ≡ with_length (type_of table m.ty.0)
part_is table None k m e = absurd (none_some e)
part_is table (Some ms) k m e = ap (option_and_then (λ (x : MemberTerm). with_length (type_of table x.ty.0))) e

module _ (units : List Unit) (n : Numbering) (table : Table) (tables : AreTables units) (merged : IsMerged units n table) (u : ℕ) (x : Unit) (is : slice_get units u ≡ Some x) where
  abbrev f : ℕ → ℕ
  f = n.tag u

  element_moved : (b : Bool) (of s : Ctype) → cond b (Some of) None ≡ Some s → cond b (Some (renamed f of)) None ≡ Some (renamed f s)
  element_moved true of s e = ap (λ (y : Ctype). Some (renamed f y)) (some_one e)
  element_moved false of s e = absurd (none_some e)

  structure_part : (tag k : ℕ) (s : Ctype) → IsPart x.types (members_in x.types tag) k s → part_type table (StructureOf (f tag)) (Member k) ≡ Some (renamed f s)
  structure_part tag k s part =
      let t = type_of x.types part.member.ty.0 in
      let there = member_moved units n table tables merged u x is (StructureOf tag) k t (record { member = part.member; stands = part.stands; type = refl }) in
      part_is table (members_in table (f tag)) k there.member there.stands ∙ (ap with_length there.type ∙ length_renamed f t s part.type)

  union_part : (tag k : ℕ) (s : Ctype) → IsPart x.types (members_in x.types tag) k s → part_type table (UnionOf (f tag)) (Member k) ≡ Some (renamed f s)
  union_part tag k s part =
      let t = type_of x.types part.member.ty.0 in
      let there = member_moved units n table tables merged u x is (UnionOf tag) k t (record { member = part.member; stands = part.stands; type = refl }) in
      part_is table (members_in table (f tag)) k there.member there.stands ∙ (ap with_length there.type ∙ length_renamed f t s part.type)

  part_moved : (t : Ctype) (step : PathStep) (s : Ctype) → part_type x.types t step ≡ Some s → part_type table (moved n u t) step ≡ Some (moved n u s)
  part_moved (ArrayOf of (Some m)) (Index i) s e = element_moved (nat_lt i m) of s e
  part_moved (StructureOf tag) (Member k) s e = structure_part tag k s (part_of x.types (members_in x.types tag) k s e)
  part_moved (UnionOf tag) (Member k) s e = union_part tag k s (part_of x.types (members_in x.types tag) k s e)
  part_moved t step s e = absurd (none_some e)

  -- the part's type, with the table's tags
  pub path_moved : (path : List PathStep) (t s : Ctype) → type_at_path x.types (Some t) path ≡ Some s → type_at_path table (Some (moved n u t)) path ≡ Some (moved n u s)
  path_moved [] t s e = ap (λ (y : Ctype). Some (moved n u y)) (some_one e)
  path_moved (step ∷ rest) t s e = by (part_type x.types t step) refl e (λ p. path_moved rest p s)
    where
      by : (o : Option Ctype) → part_type x.types t step ≡ o → type_at_path x.types o rest ≡ Some s
          → ((p : Ctype) → type_at_path x.types (Some p) rest ≡ Some s → type_at_path table (Some (moved n u p)) rest ≡ Some (moved n u s))
          → type_at_path table (part_type table (moved n u t) step) rest ≡ Some (moved n u s)
      by None part h next = absurd (path_none x.types rest s h)
      by (Some p) part h next = ap (λ (o : Option Ctype). type_at_path table o rest) (part_moved t step p part) ∙ next p h
