-- How many nodes types have, and where those of members stand.
use Rattle.std.proofs.Common.{arith, ◌≡◌, ◌∙◌, ℕ, zero, suc, ◌+◌, ◌^◌, ◌<◌, ◌≤◌, Bool, true, false, cond, List, [], ◌∷◌, length, length-append, take, Option, Some, None, IsSome, unwrap_or, slice_get, refl, sym, ap, subst, inl, inr}
use Rattle.std.specs.Prelude.{⊤, nat_lt}
use Rattle.std.specs.Option.{option_map, option_and_then}
use Rattle.std.proofs.lemmas.Bool.{lt-ltb, false≢true}
use Rattle.c_types.specs.declared.term.MemberTerm.{MemberTerm}
use Rattle.c_types.specs.Trees.{Ctype, VoidType, BoolType, IntegerType, FloatingType, VaListType, PointerTo, ArrayOf, FunctionFrom, StructureOf, UnionOf}
use Rattle.c_types.specs.Layout.{Extent, Look, all_nodes, extent_of, repeated, of_members, structure_of, union_of, or_flexible, member_extent, element_extent}
use Rattle.c_types.specs.Parts.{position, unless_flexible, member_node as place_in, within_32, field_in}
use Rattle.c_types.specs.Table.{Table, type_of, look_in, extent_in, extents_in, members_in}
use Rattle.c_types.specs.Made.{IsMade, IsFlexible}
use Rattle.c_types.proofs.Nodes.{structure_nodes, union_nodes, extents_get}
use Rattle.row_numbers.specs.Kept.{nodes_in, nodes_of, member_node}
use Rattle.normal_form.proofs.MemberNodes.{positive, or_some, unless_is}

some_one : {X : Type 0} → {x y : X} → ◌≡◌ {A = Option X} (Some x) (Some y) → x ≡ y
some_one h = cc

none_some : {X : Type 0} → {x : X} → ◌≡◌ {A = Option X} None (Some x) → ⊥
none_some h = cc

-- what stands in a list of extents
pub take_all_nodes : (es : List Extent) (k : ℕ) (e : Extent) → slice_get es k ≡ Some e → length (all_nodes (take k es)) + length e.nodes ≤ length (all_nodes es)
take_all_nodes [] k e at = absurd (none_some at)
take_all_nodes (d ∷ es) zero e at =
    let same : length d.nodes ≡ length e.nodes = ap (λ (x : Extent). length x.nodes) (some_one at) in
    let sum = length-append d.nodes (all_nodes es) in
    omega arith
take_all_nodes (d ∷ es) (suc k) e at =
    let rest = take_all_nodes es k e at in
    let sum = length-append d.nodes (all_nodes es) in
    let before = length-append d.nodes (all_nodes (take k es)) in
    omega arith

flexible_none : (table : Table) (t : Ctype) (n r : ℕ) → IsFlexible table t → unless_flexible t n ≡ Some r → ⊥
flexible_none table (ArrayOf of None) n r f h = none_some h
flexible_none table (ArrayOf of (Some m)) n r f h = f
flexible_none table VoidType n r f h = f
flexible_none table BoolType n r f h = f
flexible_none table (IntegerType size rank signed) n r f h = f
flexible_none table FloatingType n r f h = f
flexible_none table VaListType n r f h = f
flexible_none table (PointerTo to) n r f h = f
flexible_none table (FunctionFrom result parameters form) n r f h = f
flexible_none table (StructureOf tag) n r f h = f
flexible_none table (UnionOf tag) n r f h = f

-- a number that is below, where it is there
pub below_or_none : (o : Option ℕ) (bound : ℕ) → ((n : ℕ) → o ≡ Some n → n < bound) → 0 < bound → unwrap_or (within_32 o) 0 < bound
below_or_none None bound f some = some
below_or_none (Some n) bound f some = by (nat_lt n (2 ^ 32))
  where
    by : (b : Bool) → unwrap_or (cond b (Some n) None) 0 < bound
    by true = f n refl
    by false = some

module _ (table : Table) (made : IsMade table) (tag : ℕ) (ms : List MemberTerm) (is : members_in table tag ≡ Some ms) where
  look_is : look_in table tag ≡ Some (extents_in table ms)
  look_is = made.laid tag ∙ ap (option_map (extents_in table)) is

  -- a union is one node
  pub union_nodes_is : nodes_of table (UnionOf tag) ≡ UnionOf tag ∷ []
  union_nodes_is =
      ap (λ (o : Option (List Extent)). nodes_in (of_members (union_of (UnionOf tag)) o)) look_is
      ∙ ap (λ (ns : List Ctype). cond (nat_lt (length ns) (2 ^ 24 + 1)) ns []) (union_nodes (UnionOf tag) (extents_in table ms))

  -- a structure is a node followed by its members'
  pub structure_nodes_is : length (all_nodes (extents_in table ms)) < 2 ^ 24 → nodes_of table (StructureOf tag) ≡ StructureOf tag ∷ all_nodes (extents_in table ms)
  structure_nodes_is few =
      ap (λ (o : Option (List Extent)). nodes_in (of_members (structure_of (StructureOf tag)) o)) look_is
      ∙ (ap (λ (ns : List Ctype). cond (nat_lt (length ns) (2 ^ 24 + 1)) ns []) (structure_nodes (StructureOf tag) (extents_in table ms))
      ∙ ap (λ (b : Bool). cond b (StructureOf tag ∷ all_nodes (extents_in table ms)) []) (lt-ltb (length (StructureOf tag ∷ all_nodes (extents_in table ms))) (2 ^ 24 + 1) (omega arith)))

  -- a member's position in a union and in a structure
  union_place : (k n : ℕ) (om : Option MemberTerm) → option_and_then (λ (m : MemberTerm). unless_flexible (type_of table m.ty.0) 0) om ≡ Some n → n < 1
  union_place k n None h = absurd (none_some h)
  union_place k n (Some m) h = (let e = unless_is (type_of table m.ty.0) 0 n h in omega arith)

  pub union_member : (k : ℕ) → member_node table (UnionOf tag) k < length (nodes_of table (UnionOf tag))
  union_member k =
      let one : length (nodes_of table (UnionOf tag)) ≡ 1 = ap (λ (ns : List Ctype). length ns) union_nodes_is in
      let less = below_or_none (field_in table (UnionOf tag) k) 1
      (λ n h. union_place k n (slice_get ms k) (sym (ap (λ (o : Option (List MemberTerm)). place_in table (λ members. 0) o k) is) ∙ h)) (omega arith) in
      omega arith

  -- the member's nodes stand within the structure's
  pub member_within : (k : ℕ) (m : MemberTerm) → slice_get ms k ≡ Some m → length (all_nodes (take k (extents_in table ms))) + length (member_extent (look_in table) (type_of table m.ty.0)).nodes ≤ length (all_nodes (extents_in table ms))
  member_within k m at = take_all_nodes (extents_in table ms) k (member_extent (look_in table) (type_of table m.ty.0)) (extents_get table ms k m at)

  structure_place : (k n : ℕ) (om : Option MemberTerm) → slice_get ms k ≡ om → option_and_then (λ (m : MemberTerm). unless_flexible (type_of table m.ty.0) (position (extents_in table ms) k)) om ≡ Some n
      → n < suc (length (all_nodes (extents_in table ms)))
  structure_place k n None at h = absurd (none_some h)
  structure_place k n (Some m) at h =
      let t = type_of table m.ty.0 in
      let e = unless_is t (position (extents_in table ms) k) n h in
      let within = member_within k m at in
      elim (made.members tag ms is k m at).1.object [
        | inl complete ↦ (let some = or_some (extent_in table t) (element_extent (look_in table) t) (positive (look_in table) t) complete in omega arith)
        | inr last ↦ absurd (flexible_none table t (position (extents_in table ms) k) n last.flexible h)
      ]

  pub structure_member : length (all_nodes (extents_in table ms)) < 2 ^ 24 → (k : ℕ) → member_node table (StructureOf tag) k < length (nodes_of table (StructureOf tag))
  structure_member few k =
      let many : length (nodes_of table (StructureOf tag)) ≡ suc (length (all_nodes (extents_in table ms))) = ap (λ (ns : List Ctype). length ns) (structure_nodes_is few) in
      let less = below_or_none (field_in table (StructureOf tag) k) (suc (length (all_nodes (extents_in table ms))))
      (λ n h. structure_place k n (slice_get ms k) refl (sym (ap (λ (o : Option (List MemberTerm)). place_in table (λ members. position (extents_in table members) k) o k) is) ∙ h)) (omega arith) in
      omega arith
