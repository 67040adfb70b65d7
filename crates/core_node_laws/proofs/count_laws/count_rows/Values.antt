-- The nodes of values of places, promotions and conversions.
use Rattle.std.proofs.Common.{arith, ◌≤◌, ◌≡◌, refl, ◌==◌, ℕ, zero, suc, Bool, true, false, Option, Some, None, ◌||◌}
use Rattle.std.specs.Prelude.{⊤}
use Rattle.pta_base.specs.declared.kind.Kind.{Kind}
use Rattle.pta_base.specs.declared.kind.Kind.TheVariants.{Operand, StructureCast, IntegerSizeCast}
use Rattle.c_types.specs.Trees.{Ctype, VoidType, BoolType, IntegerType, FloatingType, PointerTo}
use Rattle.core_tree.specs.declared.node.NodeKind.TheVariants.{Fetch, Upcast}
use Rattle.core_tree.specs.Typed.{Sort, NoNode, PlaceNode, ValueNode, StatementNode, decayed}
use Rattle.c_consts.specs.Core.{Core, place_of, ctype_of, core_sort, over}
use Rattle.c_senses.specs.Given.{Given, Fits}
use Rattle.c_senses.specs.World.{World, same_type}
use Rattle.c_senses.specs.Nulls.{is_null}
use Rattle.c_senses.specs.Conversions.{OperandSort, Whole, Address, Aggregate, Other, operand_of, is_fetched, fetched_or_decayed, value_of_sort, value_of, converted, made, promotion, promoted, is_narrow, read_width, Target, ToVoid, ToFunction, ToWhole, ToPointer, ToStructure, ToUnion, ToOther, target_of, null_value, first_member_type, upcast_within, upcast, upcast_or, from_structure, character_kind, pointers, to_pointer, to_whole, to_other, conversion, typed, is_list}
use Rattle.core_node_laws.specs.count_laws.count_rows.Counts.{Count, count_in}
use Rattle.core_node_laws.proofs.count_laws.count_rows.Giving.{Gives, if_given, if_holds}

-- so many nodes at most
abbrev pub AtMost : Count → ℕ → Core → Type 0
AtMost n k c = count_in n c ≤ k

abbrev pub SomeAtMost : Count → ℕ → Option Core → Type 0
SomeAtMost n k None = ⊤
SomeAtMost n k (Some c) = AtMost n k c

module _ (n : Count) (k : ℕ) where
  fetched_kept : (w : World) (at : ℕ) (c : Core) → AtMost n k c → (o : Option Ctype) → Gives (AtMost n k) (fetched_or_decayed w at c o)
  fetched_kept w at c h (Some pointer) = omega (arith, h)
  fetched_kept w at c h None = if_given (AtMost n k) (is_fetched w (operand_of (ctype_of c)) || is_list (ctype_of c)) Operand at (Fits (over Fetch (place_of c) (ctype_of c) c)) (omega (arith, h))

  sort_kept : (w : World) (at : ℕ) (c : Core) → AtMost n k c → (sort : Sort) → Gives (AtMost n k) (value_of_sort w at c sort)
  sort_kept w at c h NoNode = tt
  sort_kept w at c h PlaceNode = fetched_kept w at c h (decayed (ctype_of c))
  sort_kept w at c h ValueNode = h
  sort_kept w at c h StatementNode = tt

  pub value_kept : (w : World) (at : ℕ) (c : Core) → AtMost n k c → Gives (AtMost n k) (value_of w at c)
  value_kept w at c h = sort_kept w at c h (core_sort c)

  pub converted_kept : (t : Ctype) (v : Core) → AtMost n k v → AtMost n k (converted t v)
  converted_kept t v h = omega (arith, h)

  pub made_kept : (t : Ctype) (v : Core) → AtMost n k v → AtMost n k (made t v)
  made_kept t v h = if_holds (AtMost n k) (same_type (ctype_of v) t) v (converted t v) h (converted_kept t v h)

  pub promotion_kept : (w : World) (v : Core) → AtMost n k v → AtMost n k (promotion w v)
  promotion_kept w v h = made_kept (promoted (ctype_of v) (is_narrow (read_width w v))) v h

  pub null_kept : (t : Ctype) (v : Core) → AtMost n k v → AtMost n k (null_value t v)
  null_kept t v h = omega (arith, h)

  within_kept : (w : World) (depth : ℕ) (sought : Ctype) (first : Option Ctype) (v : Core) → AtMost n k v → SomeAtMost n k (upcast_within w depth sought first v)
  within_kept w zero sought first v h = tt
  within_kept w (suc depth) sought None v h = tt
  within_kept w (suc depth) sought (Some t) v h =
      let one = over Upcast (place_of v) (PointerTo t) v in
      let here : AtMost n k one = (omega (arith, h)) in
      if_holds (SomeAtMost n k) (same_type t sought) (Some one) (upcast_within w depth sought (first_member_type w t) one) here (within_kept w depth sought (first_member_type w t) one here)

  or_kept : (at : ℕ) (kind : Kind) (o : Option Core) → SomeAtMost n k o → Gives (AtMost n k) (upcast_or at kind o)
  or_kept at kind None h = tt
  or_kept at kind (Some c) h = h

  structure_kept : (w : World) (cast : Bool) (at : ℕ) (v : Core) (from to : Ctype) (kind : Kind) → AtMost n k v → Gives (AtMost n k) (from_structure w cast at v from to kind)
  structure_kept w false at v from to kind h = tt
  structure_kept w true at v from to kind h = or_kept at kind (upcast w from to v) (within_kept w (suc w.tags) to (first_member_type w from) v h)

  pointers_kept : (w : World) (cast : Bool) (at : ℕ) (v : Core) (from to : Ctype) (a b : Target) → AtMost n k v → Gives (AtMost n k) (pointers w cast at v from to a b)
  pointers_kept w cast at v from to ToFunction ToFunction h = converted_kept (PointerTo to) v h
  pointers_kept w cast at v from to ToFunction other h = tt
  pointers_kept w cast at v from to other ToFunction h = tt
  pointers_kept w cast at v from to ToVoid other h = converted_kept (PointerTo to) v h
  pointers_kept w cast at v from to other ToVoid h = converted_kept (PointerTo to) v h
  pointers_kept w cast at v from to (ToWhole a) (ToWhole b) h = if_given (AtMost n k) (a == b) IntegerSizeCast at (Fits (converted (PointerTo to) v)) (converted_kept (PointerTo to) v h)
  pointers_kept w cast at v from to ToPointer ToPointer h = converted_kept (PointerTo to) v h
  pointers_kept w cast at v from to (ToStructure a) (ToStructure b) h = structure_kept w cast at v from to StructureCast h
  pointers_kept w cast at v from to (ToStructure a) (ToUnion b) h = structure_kept w cast at v from to StructureCast h
  pointers_kept w cast at v from to (ToStructure a) (ToWhole b) h = structure_kept w cast at v from to (character_kind to) h
  pointers_kept w cast at v from to (ToStructure a) ToPointer h = structure_kept w cast at v from to Operand h
  pointers_kept w cast at v from to (ToStructure a) ToOther h = structure_kept w cast at v from to Operand h
  pointers_kept w cast at v from to (ToUnion a) (ToStructure b) h = tt
  pointers_kept w cast at v from to (ToUnion a) (ToUnion b) h = tt
  pointers_kept w cast at v from to a b h = tt

  to_pointer_kept : (w : World) (cast : Bool) (at : ℕ) (v : Core) (to : Ctype) (x : OperandSort) → AtMost n k v → Gives (AtMost n k) (to_pointer w cast at v to x)
  to_pointer_kept w cast at v to Whole h = tt
  to_pointer_kept w cast at v to (Address from) h = pointers_kept w cast at v from to (target_of from) (target_of to) h
  to_pointer_kept w cast at v to (Aggregate tag) h = tt
  to_pointer_kept w cast at v to Other h = tt

  to_whole_kept : (pointer : Bool) (at : ℕ) (v : Core) (t : Ctype) (x : OperandSort) → AtMost n k v → Gives (AtMost n k) (to_whole pointer at v t x)
  to_whole_kept pointer at v t Whole h = converted_kept t v h
  to_whole_kept pointer at v t (Address from) h = if_given (AtMost n k) pointer Operand at (Fits (converted t v)) (converted_kept t v h)
  to_whole_kept pointer at v t (Aggregate tag) h = tt
  to_whole_kept pointer at v t Other h = tt

  to_other_kept : (w : World) (cast : Bool) (at : ℕ) (v : Core) (t : Ctype) → AtMost n k v → Gives (AtMost n k) (to_other w cast at v t)
  to_other_kept w cast at v VoidType h = if_given (AtMost n k) cast Operand at (Fits (converted VoidType v)) (converted_kept VoidType v h)
  to_other_kept w cast at v BoolType h = to_whole_kept true at v BoolType (operand_of (ctype_of v)) h
  to_other_kept w cast at v (IntegerType size rank signed) h = to_whole_kept cast at v (IntegerType size rank signed) (operand_of (ctype_of v)) h
  to_other_kept w cast at v (PointerTo to) h =
      if_holds (Gives (AtMost n k)) (is_null v) (Fits (null_value (PointerTo to) v)) (to_pointer w cast at v to (operand_of (ctype_of v))) (null_kept (PointerTo to) v h) (to_pointer_kept w cast at v to (operand_of (ctype_of v)) h)
  to_other_kept w cast at v t h = tt

  pub conversion_kept : (w : World) (cast : Bool) (at : ℕ) (v : Core) (t : Ctype) → AtMost n k v → Gives (AtMost n k) (conversion w cast at v t)
  conversion_kept w cast at v t h = if_holds (Gives (AtMost n k)) (same_type (ctype_of v) t) (Fits v) (to_other w cast at v t) h (to_other_kept w cast at v t h)

  pub typed_kept : (at : ℕ) (t : Ctype) (g : Given Core) → Gives (AtMost n k) g → Gives (AtMost n k) (typed at t g)
  typed_kept at FloatingType g h = tt
  typed_kept at t g h = h

-- promotions and conversions to a common type change no count
module _ (n : Count) where
  pub converted_same : (t : Ctype) (v : Core) → count_in n (converted t v) ≡ count_in n v
  converted_same t v = omega arith

  pub made_same : (t : Ctype) (v : Core) → count_in n (made t v) ≡ count_in n v
  made_same t v = if_holds (λ (c : Core). count_in n c ≡ count_in n v) (same_type (ctype_of v) t) v (converted t v) refl (converted_same t v)

  pub promotion_same : (w : World) (v : Core) → count_in n (promotion w v) ≡ count_in n v
  promotion_same w v = made_same (promoted (ctype_of v) (is_narrow (read_width w v))) v
