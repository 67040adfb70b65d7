-- Values of places, conversions, promotions and usual conversions keep the rows of constants.
use Rattle.std.proofs.Common.{◌≡◌, ◌≢◌, ℕ, zero, suc, Bool, true, false, ◌==◌, Option, Some, None, refl, sym, ap, subst, ◌||◌}
use Rattle.std.specs.Prelude.{⊤}
use Rattle.std.proofs.lemmas.Bool.{eqb-true}
use Rattle.pta_base.specs.declared.kind.Kind.{Kind}
use Rattle.pta_base.specs.declared.kind.Kind.TheVariants.{Operand, StructureCast, IntegerSizeCast}
use Rattle.c_types.specs.declared.term.Form.{Form}
use Rattle.c_types.specs.Trees.{Ctype, VoidType, BoolType, IntegerType, FloatingType, VaListType, PointerTo, ArrayOf, FunctionFrom, StructureOf, UnionOf}
use Rattle.c_conversions.specs.passed.core_tree.declared.node.NodeKind.TheVariants.{Upcast, Fetch}
use Rattle.c_conversions.specs.passed.core_tree.Typed.{Sort, NoNode, PlaceNode, ValueNode, StatementNode, IsInteger, IsPromoted, decayed}
use Rattle.c_conversions.specs.passed.core_tree.Rows.{Converts}
use Rattle.c_senses.specs.passed.c_consts.Core.{Core, place_of, ctype_of, core_sort, over}
use Rattle.c_senses.specs.Given.{Given, Fits}
use Rattle.c_senses.specs.World.{World, same_type}
use Rattle.c_senses.specs.Nulls.{is_null}
use Rattle.c_senses.specs.Conversions.{OperandSort, Whole, Address, Aggregate, Other, operand_of, is_fetched, fetched_or_decayed, value_of_sort, value_of, converted, made, is_narrow, read_width, promoted, promotion, first_member_type, upcast_within, upcast, upcast_or, from_structure, character_kind, pointers, target_of, to_pointer, to_whole, to_other, conversion, null_value, typed, is_list}
use Rattle.c_conversions.proofs.passed.core_nodes.SameTypes.{type_sound}
use Rattle.c_conversions.specs.Constants.{HasRows}
use Rattle.parsed_tree_laws.specs.sense_laws.Sound.{Gives}
use Rattle.parsed_tree_laws.proofs.sense_laws.Giving.{if_given, if_holds, differs}
use Rattle.parsed_tree_laws.proofs.sense_laws.Conversions.{whole_integer, address_pointer, promoted_promoted, promoted_integer}
use Rattle.parsed_tree_laws.specs.sense_laws.row_trees.Trees.{RowsValue, RowsOf}

-- what a Convert may be
to_void : (a : Ctype) → Converts a VoidType
to_void VoidType = tt
to_void a = tt

whole_converts : (a b : Ctype) → IsInteger a → IsInteger b → a ≢ b → Converts a b
whole_converts BoolType BoolType h k ne = absurd (ne refl)
whole_converts BoolType (IntegerType size rank signed) h k ne = tt
whole_converts (IntegerType size rank signed) BoolType h k ne = tt
whole_converts (IntegerType size rank signed) (IntegerType other r g) h k ne = tt
whole_converts BoolType b h k ne = absurd k
whole_converts (IntegerType size rank signed) b h k ne = absurd k
whole_converts a b h k ne = absurd h

pointer_to_bool : (a : Ctype) → Converts (PointerTo a) BoolType
pointer_to_bool VoidType = tt
pointer_to_bool a = tt

pointer_to_integer : (a : Ctype) (size rank : ℕ) (signed : Bool) → Converts (PointerTo a) (IntegerType size rank signed)
pointer_to_integer VoidType size rank signed = tt
pointer_to_integer a size rank signed = tt

void_to_pointer : (a : Ctype) → ((r : Ctype) (ps : _) (f : Form) → a ≡ FunctionFrom r ps f → ⊥) → Converts (PointerTo VoidType) (PointerTo a)
void_to_pointer (FunctionFrom r ps f) h = absurd (h r ps f refl)
void_to_pointer VoidType h = tt
void_to_pointer a h = tt

pub pointer_to_void : (a : Ctype) → ((r : Ctype) (ps : _) (f : Form) → a ≡ FunctionFrom r ps f → ⊥) → Converts (PointerTo a) (PointerTo VoidType)
pointer_to_void (FunctionFrom r ps f) h = absurd (h r ps f refl)
pointer_to_void VoidType h = tt
pointer_to_void a h = tt

module _ (w : World) where
  -- values of places
  decayed_rows : (at : ℕ) (c : Core) → HasRows c → (o : Option Ctype) → Gives RowsValue (fetched_or_decayed w at c o)
  decayed_rows at c h (Some pointer) = ((tt, (h, tt)), refl)
  decayed_rows at c h None =
      if_given RowsValue (is_fetched w (operand_of (ctype_of c)) || is_list (ctype_of c)) Operand at (Fits (over Fetch (place_of c) (ctype_of c) c)) (λ fetched. ((tt, (h, tt)), refl))

  value_of_sort_rows : (at : ℕ) (c : Core) → HasRows c → (s : Sort) → core_sort c ≡ s → Gives RowsValue (value_of_sort w at c s)
  value_of_sort_rows at c h NoNode e = tt
  value_of_sort_rows at c h PlaceNode e = decayed_rows at c h (decayed (ctype_of c))
  value_of_sort_rows at c h ValueNode e = (h, e)
  value_of_sort_rows at c h StatementNode e = tt

  pub value_rows : (at : ℕ) (c : Core) → HasRows c → Gives RowsValue (value_of w at c)
  value_rows at c h = value_of_sort_rows at c h (core_sort c) refl

  -- conversions
  pub converted_rows : (t : Ctype) (v : Core) → RowsValue v → ctype_of v ≢ t → Converts (ctype_of v) t → RowsOf t (converted t v)
  converted_rows t v h ne converts = (((h.1, ne, converts), (h.0, tt)), (refl, refl))

  pub null_rows : (to : Ctype) (v : Core) → RowsOf (PointerTo to) (null_value (PointerTo to) v)
  null_rows to v = ((tt, tt), (refl, refl))

  same_rows : (t : Ctype) (v : Core) → RowsValue v → same_type (ctype_of v) t ≡ true → RowsOf t v
  same_rows t v h e = (h.0, (h.1, type_sound (ctype_of v) t e))

  pub made_rows : (t : Ctype) (v : Core) → RowsValue v → IsInteger (ctype_of v) → IsInteger t → RowsOf t (made t v)
  made_rows t v h a b =
      if_holds (RowsOf t) (same_type (ctype_of v) t) v (converted t v) (same_rows t v h)
      (λ e. converted_rows t v h (differs (ctype_of v) t e) (whole_converts (ctype_of v) t a b (differs (ctype_of v) t e)))

  -- upcasts
  pub GivesSome : (Core → Type 0) → Option Core → Type 0
  GivesSome P None = ⊤
  GivesSome P (Some x) = P x

  upcast_within_rows : (depth : ℕ) (sought : Ctype) (o : Option Ctype) (v : Core) → RowsValue v → GivesSome (RowsOf (PointerTo sought)) (upcast_within w depth sought o v)
  unfolding GivesSome
  upcast_within_rows zero sought o v h = tt
  upcast_within_rows (suc depth) sought None v h = tt
  upcast_within_rows (suc depth) sought (Some t) v h =
      let one : Core = over Upcast (place_of v) (PointerTo t) v in
      let rows : HasRows one = (tt, (h.0, tt)) in
      if_holds (GivesSome (RowsOf (PointerTo sought))) (same_type t sought) (Some one) (upcast_within w depth sought (first_member_type w t) one)
      (λ same. (rows, (refl, ap PointerTo (type_sound t sought same)))) (λ other. upcast_within_rows depth sought (first_member_type w t) one (rows, refl))

  upcast_or_rows : (P : Core → Type 0) (at : ℕ) (kind : Kind) (o : Option Core) → GivesSome P o → Gives P (upcast_or at kind o)
  unfolding GivesSome
  upcast_or_rows P at kind None h = tt
  upcast_or_rows P at kind (Some x) h = h

  from_structure_rows : (cast : Bool) (at : ℕ) (v : Core) (from to : Ctype) (kind : Kind) → RowsValue v → Gives (RowsOf (PointerTo to)) (from_structure w cast at v from to kind)
  from_structure_rows false at v from to kind h = tt
  from_structure_rows true at v from to kind h =
      upcast_or_rows (RowsOf (PointerTo to)) at kind (upcast w from to v) (upcast_within_rows (suc w.tags) to (first_member_type w from) v h)

  -- from pointers to pointers
  module _ (v : Core) (h : RowsValue v) where
    pointed : (from to : Ctype) → ctype_of v ≡ PointerTo from → ctype_of v ≢ PointerTo to → Converts (PointerTo from) (PointerTo to) → RowsOf (PointerTo to) (converted (PointerTo to) v)
    pointed from to e ne converts = converted_rows (PointerTo to) v h ne (subst (λ (q : Ctype). Converts q (PointerTo to)) (sym e) converts)

    pointers_rows : (cast : Bool) (at : ℕ) (from to : Ctype) → ctype_of v ≡ PointerTo from → ctype_of v ≢ PointerTo to → Gives (RowsOf (PointerTo to)) (pointers w cast at v from to (target_of from) (target_of to))
    pointers_rows cast at (FunctionFrom r ps f) (FunctionFrom q qs g) e ne = pointed (FunctionFrom r ps f) (FunctionFrom q qs g) e ne tt
    pointers_rows cast at VoidType (FunctionFrom q qs g) e ne = tt
    pointers_rows cast at from (FunctionFrom q qs g) e ne = tt
    pointers_rows cast at (FunctionFrom r ps f) to e ne = tt
    pointers_rows cast at VoidType to e ne = pointed VoidType to e ne tt
    pointers_rows cast at from VoidType e ne = pointed from VoidType e ne tt
    pointers_rows cast at BoolType BoolType e ne = absurd (ne e)
    pointers_rows cast at BoolType (IntegerType size rank signed) e ne =
        if_given (RowsOf (PointerTo (IntegerType size rank signed))) (1 == size) IntegerSizeCast at (Fits (converted (PointerTo (IntegerType size rank signed)) v))
        (λ same. pointed BoolType (IntegerType size rank signed) e ne (sym (eqb-true 1 size same)))
    pointers_rows cast at (IntegerType size rank signed) BoolType e ne =
        if_given (RowsOf (PointerTo BoolType)) (size == 1) IntegerSizeCast at (Fits (converted (PointerTo BoolType) v))
        (λ same. pointed (IntegerType size rank signed) BoolType e ne (eqb-true size 1 same))
    pointers_rows cast at (IntegerType size rank signed) (IntegerType other r g) e ne =
        if_given (RowsOf (PointerTo (IntegerType other r g))) (size == other) IntegerSizeCast at (Fits (converted (PointerTo (IntegerType other r g)) v))
        (λ same. pointed (IntegerType size rank signed) (IntegerType other r g) e ne (eqb-true size other same))
    pointers_rows cast at (PointerTo from) (PointerTo to) e ne = pointed (PointerTo from) (PointerTo to) e ne tt
    pointers_rows cast at (StructureOf a) (StructureOf b) e ne = from_structure_rows cast at v (StructureOf a) (StructureOf b) StructureCast h
    pointers_rows cast at (StructureOf a) (UnionOf b) e ne = from_structure_rows cast at v (StructureOf a) (UnionOf b) StructureCast h
    pointers_rows cast at (StructureOf a) BoolType e ne = from_structure_rows cast at v (StructureOf a) BoolType (character_kind BoolType) h
    pointers_rows cast at (StructureOf a) (IntegerType size rank signed) e ne =
        from_structure_rows cast at v (StructureOf a) (IntegerType size rank signed) (character_kind (IntegerType size rank signed)) h
    pointers_rows cast at (StructureOf a) (PointerTo to) e ne = from_structure_rows cast at v (StructureOf a) (PointerTo to) Operand h
    pointers_rows cast at (StructureOf a) FloatingType e ne = from_structure_rows cast at v (StructureOf a) FloatingType Operand h
    pointers_rows cast at (StructureOf a) VaListType e ne = from_structure_rows cast at v (StructureOf a) VaListType Operand h
    pointers_rows cast at (StructureOf a) (ArrayOf of n) e ne = from_structure_rows cast at v (StructureOf a) (ArrayOf of n) Operand h
    pointers_rows cast at from to e ne = tt

    to_pointer_rows : (cast : Bool) (at : ℕ) (to : Ctype) → ctype_of v ≢ PointerTo to → (sort : OperandSort) → operand_of (ctype_of v) ≡ sort → Gives (RowsOf (PointerTo to)) (to_pointer w cast at v to sort)
    to_pointer_rows cast at to ne Whole e = tt
    to_pointer_rows cast at to ne (Address from) e = pointers_rows cast at from to (address_pointer (ctype_of v) from e) ne
    to_pointer_rows cast at to ne (Aggregate tag) e = tt
    to_pointer_rows cast at to ne Other e = tt

    to_whole_rows : (pointer : Bool) (at : ℕ) (t : Ctype) → ctype_of v ≢ t → IsInteger t → ((a : Ctype) → Converts (PointerTo a) t) → (sort : OperandSort) → operand_of (ctype_of v) ≡ sort → Gives (RowsOf t) (to_whole pointer at v t sort)
    to_whole_rows pointer at t ne whole from Whole e = converted_rows t v h ne (whole_converts (ctype_of v) t (whole_integer (ctype_of v) e) whole ne)
    to_whole_rows pointer at t ne whole from (Address a) e =
        if_given (RowsOf t) pointer Operand at (Fits (converted t v))
        (λ allowed. converted_rows t v h ne (subst (λ (q : Ctype). Converts q t) (sym (address_pointer (ctype_of v) a e)) (from a)))
    to_whole_rows pointer at t ne whole from (Aggregate tag) e = tt
    to_whole_rows pointer at t ne whole from Other e = tt

    to_other_rows : (cast : Bool) (at : ℕ) (t : Ctype) → ctype_of v ≢ t → Gives (RowsOf t) (to_other w cast at v t)
    to_other_rows cast at VoidType ne =
        if_given (RowsOf VoidType) cast Operand at (Fits (converted VoidType v)) (λ allowed. converted_rows VoidType v h ne (to_void (ctype_of v)))
    to_other_rows cast at BoolType ne = to_whole_rows true at BoolType ne tt pointer_to_bool (operand_of (ctype_of v)) refl
    to_other_rows cast at (IntegerType size rank signed) ne =
        to_whole_rows cast at (IntegerType size rank signed) ne tt (λ a. pointer_to_integer a size rank signed) (operand_of (ctype_of v)) refl
    to_other_rows cast at (PointerTo to) ne =
        if_holds (Gives (RowsOf (PointerTo to))) (is_null v) (Fits (null_value (PointerTo to) v)) (to_pointer w cast at v to (operand_of (ctype_of v)))
        (λ null. null_rows to v)
        (λ other. to_pointer_rows cast at to ne (operand_of (ctype_of v)) refl)
    to_other_rows cast at t ne = tt

    pub conversion_rows : (cast : Bool) (at : ℕ) (t : Ctype) → Gives (RowsOf t) (conversion w cast at v t)
    conversion_rows cast at t =
        if_holds (Gives (RowsOf t)) (same_type (ctype_of v) t) (Fits v) (to_other w cast at v t) (same_rows t v h)
        (λ other. to_other_rows cast at t (differs (ctype_of v) t other))

  pub typed_rows : (P : Core → Type 0) (at : ℕ) (t : Ctype) (g : Given Core) → Gives P g → Gives P (typed at t g)
  typed_rows P at FloatingType g h = tt
  typed_rows P at t g h = h

  -- promotions
  pub promotion_rows : (v : Core) → RowsValue v → IsInteger (ctype_of v) → RowsOf (promoted (ctype_of v) (is_narrow (read_width w v))) (promotion w v)
  promotion_rows v h whole =
      let promoted_type : IsPromoted (promoted (ctype_of v) (is_narrow (read_width w v))) = promoted_promoted (ctype_of v) (is_narrow (read_width w v)) whole in
      made_rows (promoted (ctype_of v) (is_narrow (read_width w v))) v h whole (promoted_integer _ promoted_type)

  pub promotion_promoted : (v : Core) → RowsValue v → IsInteger (ctype_of v) → IsPromoted (ctype_of (promotion w v))
  promotion_promoted v h whole = subst IsPromoted (sym (promotion_rows v h whole).1.1) (promoted_promoted (ctype_of v) (is_narrow (read_width w v)) whole)

  pub promotion_value : (v : Core) → RowsValue v → IsInteger (ctype_of v) → RowsValue (promotion w v)
  promotion_value v h whole = let p = promotion_rows v h whole in (p.0, p.1.0)
