-- A location of a structure's type, which isn't collapsed, has a tag that stands in no union.
use Rattle.std.proofs.Common.{arith, ◌≡◌, ◌∙◌, ◌+◌, ◌++◌, ℕ, zero, suc, Bool, true, false, List, [], ◌∷◌, map, length, Option, Some, None, refl, sym, ap, subst, inl, inr}
use Rattle.std.specs.Prelude.{if◌then◌else◌, nat_eq}
use Rattle.std.specs.List.{slice_get}
use Rattle.std.proofs.lemmas.Bool.{cases_lt}
use Rattle.c_types.specs.declared.term.MemberTerm.{MemberTerm}
use Rattle.c_types.specs.declared.term.Term.{Term}
use Rattle.c_types.specs.declared.term.Term.TheVariants.{Array, Structure, Union}
use Rattle.c_types.specs.Trees.{Ctype, VoidType, BoolType, IntegerType, FloatingType, VaListType, PointerTo, ArrayOf, FunctionFrom, StructureOf, UnionOf, grow}
use Rattle.c_types.specs.Table.{Table, types_of, type_of, members_in}
use Rattle.c_types.specs.Made.{AreNamed}
use Rattle.core_tree.specs.declared.node.Program.{Program}
use Rattle.link_merge.proofs.Terms.{type_is}
use Rattle.obj_made.specs.declared.object.Content.{Content}
use Rattle.obj_made.specs.declared.object.Content.TheVariants.{Function, Blob, Scalar, Scalars, Typed, Elements}
use Rattle.obj_made.specs.declared.object.Object.{Object}
use Rattle.obj_space.specs.declared.location.Location.{Location}
use Rattle.obj_space.specs.Objects.{objects_of}
use Rattle.obj_space.specs.Parts.{Part, only, behind, members_parts, structure_parts, union_parts, tree_over, structures_within, node_count, parts_of, size_number, type_number, is_collapsed}
use Rattle.obj_space.specs.Space.{located, locations_by, locations_of, locations_in}
use Rattle.obj_space.specs.View.{collapsed_of, type_of_node, view_of}
use Rattle.obj_space.proofs.Small.{IsSmall, AllSmall, objects_small}
use Rattle.twin_report_laws.specs.outcome_laws.twin_words.Words.{IsSound}
use Rattle.twin_report_laws.proofs.outcome_laws.twin_words.Members.{Member, member_at, member_split, member_map, member_flat}
use Rattle.twin_report_laws.proofs.rows.Nodes.{some_at, void_past, structure_known}
use Rattle.twin_report_laws.proofs.rows.Facts.{ApartTags}

-- a type of the table
InTable : Table → Ctype → Type 0
InTable table t = (j : ℕ) × (type_of table j ≡ t)

AllIn : Table → List Part → Type 0
AllIn table ps = (part : Part) → Member ps part → InTable table part.ty

module _ (table : Table) (named : AreNamed table) where
  element_in : (of : Ctype) (n : Option ℕ) → InTable table (ArrayOf of n) → InTable table of
  unfolding InTable
  element_in of n (j, is) = elim (cases_lt j (length table.terms)) [
    | inr past ↦ absurd (let never : VoidType ≡ ArrayOf of n = sym (void_past table j past) ∙ is in cc)
    | inl lt ↦
        let (t, at) = some_at table.terms j lt in
        by t (sym (type_is table j t named at) ∙ is)
  ]
    where
      by : (t : Term) → grow (types_of table) t ≡ ArrayOf of n → (k : ℕ) × (type_of table k ≡ of)
      by (Array id length) e = (id.0, cc)
      by t e = absurd (cc)

  structure_in : (tag : ℕ) → InTable table (StructureOf tag) → (i : ℕ) × (slice_get table.terms i ≡ Some (Structure tag))
  unfolding InTable
  structure_in tag (j, is) = structure_known table j tag is

  one_in : (t : Ctype) → InTable table t → AllIn table (only t)
  unfolding AllIn InTable
  one_in t h part (inl same) = subst (λ (p : Part). (j : ℕ) × (type_of table j ≡ p.ty)) same h
  one_in t h part (inr none) = absurd none

  behind_in : (prefix : List ℕ) (ps : List Part) → AllIn table ps → AllIn table (map (behind prefix) ps)
  unfolding AllIn InTable
  behind_in prefix ps h part m =
      let (o, o_in, is) = member_map (behind prefix) ps part m in
      subst (λ (p : Part). (j : ℕ) × (type_of table j ≡ p.ty)) is (h o o_in)

  both_in : (ps qs : List Part) → AllIn table ps → AllIn table qs → AllIn table (ps ++ qs)
  unfolding AllIn
  both_in ps qs h k part m = elim (member_split ps qs part m) [ inl left ↦ h part left | inr right ↦ k part right ]

  none_in : AllIn table []
  unfolding AllIn
  none_in part m = absurd m

  members_in_table : (tree : Ctype → List Part) → ((t : Ctype) → InTable table t → AllIn table (tree t)) → (k : ℕ) (ms : List MemberTerm) → AllIn table (members_parts tree table k ms)
  unfolding InTable
  members_in_table tree h k [] = none_in
  members_in_table tree h k (m ∷ rest) =
      both_in (map (behind _) (tree (type_of table m.ty.0))) (members_parts tree table (k + 1) rest) (behind_in _ (tree (type_of table m.ty.0)) (h (type_of table m.ty.0) (m.ty.0, refl))) (members_in_table tree h (k + 1) rest)

  tree_in : (structures : ℕ → List Part) → ((tag : ℕ) → InTable table (StructureOf tag) → AllIn table (structures tag)) → (t : Ctype) → InTable table t → AllIn table (tree_over structures table t)
  tree_in structures h VoidType own = none_in
  tree_in structures h BoolType own = one_in BoolType own
  tree_in structures h (IntegerType size rank signed) own = one_in (IntegerType size rank signed) own
  tree_in structures h FloatingType own = one_in FloatingType own
  tree_in structures h VaListType own = one_in VaListType own
  tree_in structures h (PointerTo to) own = one_in (PointerTo to) own
  tree_in structures h (ArrayOf of None) own = none_in
  tree_in structures h (ArrayOf of (Some n)) own = tree_in structures h of (element_in of (Some n) own)
  tree_in structures h (FunctionFrom result parameters form) own = none_in
  tree_in structures h (StructureOf tag) own = h tag own
  tree_in structures h (UnionOf tag) own = by (members_in table tag)
    where
      by : (o : Option (List MemberTerm)) → AllIn table (union_parts tag o)
      by None = none_in
      by (Some ms) = one_in (UnionOf tag) own

  within_in : (depth tag : ℕ) → InTable table (StructureOf tag) → AllIn table (structures_within depth table tag)
  within_in zero tag own = none_in
  within_in (suc depth) tag own = by (members_in table tag) (within_in depth)
    where
      by : (o : Option (List MemberTerm)) → ((inner : ℕ) → InTable table (StructureOf inner) → AllIn table (structures_within depth table inner))
          → AllIn table (structure_parts (tree_over (structures_within depth table) table) table tag o)
      by None rest = none_in
      by (Some ms) rest =
          both_in (only (StructureOf tag)) (members_parts (tree_over (structures_within depth table) table) table 0 ms) (one_in (StructureOf tag) own)
          (members_in_table (tree_over (structures_within depth table) table) (tree_in (structures_within depth table) rest) 0 ms)

  parts_in : (t : Ctype) → InTable table t → AllIn table (parts_of table t)
  unfolding parts_of
  parts_in t own = tree_in (structures_within (node_count _) table) (within_in (node_count _)) t own

-- ---- what has a tag's number and isn't collapsed is a structure
small_size : (size tag : ℕ) → size_number size ≡ 8 + tag → ⊥
small_size size tag h = by (nat_eq size 1) (nat_eq size 2) (nat_eq size 4) h
  where
    by : (a b c : Bool) → (if a then 0 else if b then 1 else if c then 2 else 3) ≡ 8 + tag → ⊥
    by true b c e = omega (arith, e)
    by false true c e = omega (arith, e)
    by false false true e = omega (arith, e)
    by false false false e = omega (arith, e)

structure_is : (t : Ctype) (tag : ℕ) → type_number t ≡ 8 + tag → is_collapsed t ≡ false → t ≡ StructureOf tag
structure_is (StructureOf other) tag e c = ap StructureOf (omega (arith, e))
structure_is (UnionOf other) tag e c = absurd (cc)
structure_is (IntegerType size rank signed) tag e c = absurd (small_size size tag e)
structure_is BoolType tag e c = absurd (omega (arith, e))
structure_is (PointerTo to) tag e c = absurd (omega (arith, e))
structure_is FloatingType tag e c = absurd (omega (arith, e))
structure_is VaListType tag e c = absurd (omega (arith, e))
structure_is VoidType tag e c = absurd (omega (arith, e))
structure_is (ArrayOf of length) tag e c = absurd (omega (arith, e))
structure_is (FunctionFrom result parameters form) tag e c = absurd (omega (arith, e))

small_of : (os : List Object) (o : Object) → AllSmall os → Member os o → IsSmall o.content
small_of [] o h m = absurd m
small_of (x ∷ os) o h (inl same) = subst (λ (y : Object). IsSmall y.content) same h.0
small_of (x ∷ os) o h (inr m) = small_of os o h.1 m

module _ (p : Program) (sound : IsSound p) where
  -- a node of a type of the table
  part_of_location : (o : Object) (id : ℕ) (x : Location) (tag : ℕ) → Member (map (located o.key o.content o.name) (parts_of p.types (type_of p.types id))) x → x.ty ≡ 8 + tag → x.collapsed ≡ false → InTable p.types (StructureOf tag)
  unfolding InTable AllIn
  part_of_location o id x tag m ty c =
      let (part, part_in, is) = member_map (located o.key o.content o.name) (parts_of p.types (type_of p.types id)) x m in
      let t = structure_is part.ty tag (ap (λ (y : Location). y.ty) is ∙ ty) (ap (λ (y : Location). y.collapsed) is ∙ c) in
      let there = parts_in p.types sound.named (type_of p.types id) (id, refl) part part_in in
      (there.0, there.1 ∙ t)

  -- a location of an object, with a tag's number
  structure_at : (o : Object) (content : Content) (x : Location) (tag : ℕ) → IsSmall content → Member (locations_by p.types o content) x → x.ty ≡ 8 + tag → x.collapsed ≡ false → InTable p.types (StructureOf tag)
  structure_at o Function x tag small (inl same) ty c = (let e : 5 ≡ 8 + tag = ap (λ (y : Location). y.ty) same ∙ ty in absurd (omega (arith, e)))
  structure_at o Function x tag small (inr none) ty c = absurd none
  structure_at o Blob x tag small (inl same) ty c = (let e : 5 ≡ 8 + tag = ap (λ (y : Location). y.ty) same ∙ ty in absurd (omega (arith, e)))
  structure_at o Blob x tag small (inr none) ty c = absurd none
  structure_at o (Scalar number) x tag small (inl same) ty c = (let e : number ≡ 8 + tag = ap (λ (y : Location). y.ty) same ∙ ty in absurd (omega (arith, e, small)))
  structure_at o (Scalar number) x tag small (inr none) ty c = absurd none
  structure_at o (Scalars number) x tag small (inl same) ty c = (let e : number ≡ 8 + tag = ap (λ (y : Location). y.ty) same ∙ ty in absurd (omega (arith, e, small)))
  structure_at o (Scalars number) x tag small (inr none) ty c = absurd none
  structure_at o (Typed id) x tag small m ty c = part_of_location o id.0 x tag m ty c
  structure_at o (Elements id) x tag small m ty c = part_of_location o id.0 x tag m ty c

  location_structure : (x : Location) (tag : ℕ) → Member (locations_in p) x → x.ty ≡ 8 + tag → x.collapsed ≡ false → (i : ℕ) × (slice_get p.types.terms i ≡ Some (Structure tag))
  unfolding locations_in
  location_structure x tag m ty c =
      let (o, o_in, of) = member_flat (locations_of p.types) (objects_of p) x m in
      structure_in p.types sound.named tag (structure_at o o.content x tag (small_of (objects_of p) o (objects_small p) o_in) of ty c)

  pub apart_tags : ApartTags p
  apart_tags = record { each = each }
    where
      each : (l tag : ℕ) → (view_of (locations_in p)).collapsed l ≡ false → (view_of (locations_in p)).node_type l ≡ 8 + tag → (i : ℕ) → slice_get p.types.terms i ≡ Some (Union tag) → ⊥
      each l tag c ty i there = by (slice_get (locations_in p) l) refl c ty
        where
          by : (o : Option Location) → slice_get (locations_in p) l ≡ o → collapsed_of o ≡ false → type_of_node o ≡ 8 + tag → ⊥
          by None e apart type = omega (arith, type)
          by (Some x) e apart type =
              let (j, j_at) = location_structure x tag (member_at (locations_in p) l x e) type apart in
              sound.made.apart.each j i tag j_at there
