-- The places of values of places, promotions and conversions.
use Rattle.std.proofs.Common.{◌==◌, ℕ, zero, suc, Bool, true, false, Option, Some, None, ◌||◌}
use Rattle.std.specs.Prelude.{⊤}
use Rattle.pta_base.specs.declared.kind.Kind.{Kind}
use Rattle.pta_base.specs.declared.kind.Kind.TheVariants.{Operand, StructureCast, IntegerSizeCast}
use Rattle.c_types.specs.Trees.{Ctype, VoidType, BoolType, IntegerType, FloatingType, PointerTo}
use Rattle.core_tree.specs.declared.node.NodeKind.TheVariants.{Fetch, Upcast}
use Rattle.core_tree.specs.Typed.{Sort, NoNode, PlaceNode, ValueNode, StatementNode, decayed}
use Rattle.c_consts.specs.Core.{Core, Of, place_of, ctype_of, core_sort, over}
use Rattle.c_senses.specs.Tree.{Source}
use Rattle.c_senses.specs.Given.{Given, Fits}
use Rattle.c_senses.specs.World.{World, same_type}
use Rattle.c_senses.specs.Nulls.{is_null}
use Rattle.c_senses.specs.Conversions.{OperandSort, Whole, Address, Aggregate, Other, operand_of, is_fetched, fetched_or_decayed, value_of_sort, value_of, converted, made, promotion, promoted, is_narrow, read_width, Target, ToVoid, ToFunction, ToWhole, ToPointer, ToStructure, ToUnion, ToOther, target_of, null_value, first_member_type, upcast_within, upcast, upcast_or, from_structure, character_kind, pointers, to_pointer, to_whole, to_other, conversion, typed, is_list}
use Rattle.core_node_laws.proofs.count_laws.named_units.Standing.{IsAt, OfSource, fine_at}
use Rattle.core_node_laws.proofs.count_laws.named_units.Giving.{Gives, if_given, if_holds}

module _ (source : Source) where
  pub place_kept : (c : Core) → OfSource source c → IsAt source (place_of c)
  place_kept (Of kind place type under) h = fine_at source kind place h.0

  abbrev pub SomeOf : Option Core → Type 0
  SomeOf None = ⊤
  SomeOf (Some c) = OfSource source c

  fetched_kept : (w : World) (at : ℕ) (c : Core) → OfSource source c → (o : Option Ctype) → Gives (OfSource source) (fetched_or_decayed w at c o)
  fetched_kept w at c h (Some pointer) = (place_kept c h, (h, tt))
  fetched_kept w at c h None = if_given (OfSource source) (is_fetched w (operand_of (ctype_of c)) || is_list (ctype_of c)) Operand at (Fits (over Fetch (place_of c) (ctype_of c) c)) (place_kept c h, (h, tt))

  sort_kept : (w : World) (at : ℕ) (c : Core) → OfSource source c → (sort : Sort) → Gives (OfSource source) (value_of_sort w at c sort)
  sort_kept w at c h NoNode = tt
  sort_kept w at c h PlaceNode = fetched_kept w at c h (decayed (ctype_of c))
  sort_kept w at c h ValueNode = h
  sort_kept w at c h StatementNode = tt

  pub value_kept : (w : World) (at : ℕ) (c : Core) → OfSource source c → Gives (OfSource source) (value_of w at c)
  value_kept w at c h = sort_kept w at c h (core_sort c)

  pub converted_kept : (t : Ctype) (v : Core) → OfSource source v → OfSource source (converted t v)
  converted_kept t v h = (place_kept v h, (h, tt))

  pub made_kept : (t : Ctype) (v : Core) → OfSource source v → OfSource source (made t v)
  made_kept t v h = if_holds (OfSource source) (same_type (ctype_of v) t) v (converted t v) h (converted_kept t v h)

  pub promotion_kept : (w : World) (v : Core) → OfSource source v → OfSource source (promotion w v)
  promotion_kept w v h = made_kept (promoted (ctype_of v) (is_narrow (read_width w v))) v h

  pub null_kept : (t : Ctype) (v : Core) → OfSource source v → OfSource source (null_value t v)
  null_kept t v h = (place_kept v h, tt)

  within_kept : (w : World) (depth : ℕ) (sought : Ctype) (first : Option Ctype) (v : Core) → OfSource source v → SomeOf (upcast_within w depth sought first v)
  within_kept w zero sought first v h = tt
  within_kept w (suc depth) sought None v h = tt
  within_kept w (suc depth) sought (Some t) v h =
      let one = over Upcast (place_of v) (PointerTo t) v in
      let here : OfSource source one = (place_kept v h, (h, tt)) in
      if_holds SomeOf (same_type t sought) (Some one) (upcast_within w depth sought (first_member_type w t) one) here (within_kept w depth sought (first_member_type w t) one here)

  or_kept : (at : ℕ) (kind : Kind) (o : Option Core) → SomeOf o → Gives (OfSource source) (upcast_or at kind o)
  or_kept at kind None h = tt
  or_kept at kind (Some c) h = h

  structure_kept : (w : World) (cast : Bool) (at : ℕ) (v : Core) (from to : Ctype) (kind : Kind) → OfSource source v → Gives (OfSource source) (from_structure w cast at v from to kind)
  structure_kept w false at v from to kind h = tt
  structure_kept w true at v from to kind h = or_kept at kind (upcast w from to v) (within_kept w (suc w.tags) to (first_member_type w from) v h)

  pointers_kept : (w : World) (cast : Bool) (at : ℕ) (v : Core) (from to : Ctype) (a b : Target) → OfSource source v → Gives (OfSource source) (pointers w cast at v from to a b)
  pointers_kept w cast at v from to ToFunction ToFunction h = converted_kept (PointerTo to) v h
  pointers_kept w cast at v from to ToFunction other h = tt
  pointers_kept w cast at v from to other ToFunction h = tt
  pointers_kept w cast at v from to ToVoid other h = converted_kept (PointerTo to) v h
  pointers_kept w cast at v from to other ToVoid h = converted_kept (PointerTo to) v h
  pointers_kept w cast at v from to (ToWhole a) (ToWhole b) h = if_given (OfSource source) (a == b) IntegerSizeCast at (Fits (converted (PointerTo to) v)) (converted_kept (PointerTo to) v h)
  pointers_kept w cast at v from to ToPointer ToPointer h = converted_kept (PointerTo to) v h
  pointers_kept w cast at v from to (ToStructure a) (ToStructure b) h = structure_kept w cast at v from to StructureCast h
  pointers_kept w cast at v from to (ToStructure a) (ToUnion b) h = structure_kept w cast at v from to StructureCast h
  pointers_kept w cast at v from to (ToStructure a) (ToWhole b) h = structure_kept w cast at v from to (character_kind to) h
  pointers_kept w cast at v from to (ToStructure a) ToPointer h = structure_kept w cast at v from to Operand h
  pointers_kept w cast at v from to (ToStructure a) ToOther h = structure_kept w cast at v from to Operand h
  pointers_kept w cast at v from to (ToUnion a) (ToStructure b) h = tt
  pointers_kept w cast at v from to (ToUnion a) (ToUnion b) h = tt
  pointers_kept w cast at v from to a b h = tt

  to_pointer_kept : (w : World) (cast : Bool) (at : ℕ) (v : Core) (to : Ctype) (x : OperandSort) → OfSource source v → Gives (OfSource source) (to_pointer w cast at v to x)
  to_pointer_kept w cast at v to Whole h = tt
  to_pointer_kept w cast at v to (Address from) h = pointers_kept w cast at v from to (target_of from) (target_of to) h
  to_pointer_kept w cast at v to (Aggregate tag) h = tt
  to_pointer_kept w cast at v to Other h = tt

  to_whole_kept : (pointer : Bool) (at : ℕ) (v : Core) (t : Ctype) (x : OperandSort) → OfSource source v → Gives (OfSource source) (to_whole pointer at v t x)
  to_whole_kept pointer at v t Whole h = converted_kept t v h
  to_whole_kept pointer at v t (Address from) h = if_given (OfSource source) pointer Operand at (Fits (converted t v)) (converted_kept t v h)
  to_whole_kept pointer at v t (Aggregate tag) h = tt
  to_whole_kept pointer at v t Other h = tt

  to_other_kept : (w : World) (cast : Bool) (at : ℕ) (v : Core) (t : Ctype) → OfSource source v → Gives (OfSource source) (to_other w cast at v t)
  to_other_kept w cast at v VoidType h = if_given (OfSource source) cast Operand at (Fits (converted VoidType v)) (converted_kept VoidType v h)
  to_other_kept w cast at v BoolType h = to_whole_kept true at v BoolType (operand_of (ctype_of v)) h
  to_other_kept w cast at v (IntegerType size rank signed) h = to_whole_kept cast at v (IntegerType size rank signed) (operand_of (ctype_of v)) h
  to_other_kept w cast at v (PointerTo to) h =
      if_holds (Gives (OfSource source)) (is_null v) (Fits (null_value (PointerTo to) v)) (to_pointer w cast at v to (operand_of (ctype_of v))) (null_kept (PointerTo to) v h) (to_pointer_kept w cast at v to (operand_of (ctype_of v)) h)
  to_other_kept w cast at v t h = tt

  pub conversion_kept : (w : World) (cast : Bool) (at : ℕ) (v : Core) (t : Ctype) → OfSource source v → Gives (OfSource source) (conversion w cast at v t)
  conversion_kept w cast at v t h = if_holds (Gives (OfSource source)) (same_type (ctype_of v) t) (Fits v) (to_other w cast at v t) h (to_other_kept w cast at v t h)

  pub typed_kept : (at : ℕ) (t : Ctype) (g : Given Core) → Gives (OfSource source) g → Gives (OfSource source) (typed at t g)
  typed_kept at FloatingType g h = tt
  typed_kept at t g h = h
