-- Conversions, operators and places.
use Rattle.std.proofs.Common.{◌==◌, ℕ, Bool, true, false, ◌&&◌, not, List, [], ◌∷◌, Option, Some, None, length, ◌||◌}
use Rattle.std.specs.Prelude.{is_some, is_none, if◌then◌else◌}
use Rattle.pta_base.specs.declared.kind.Kind.{Kind}
use Rattle.pta_base.specs.declared.kind.Kind.TheVariants.{Operand, CharacterCast, IntegerSizeCast, StructureCast}
use Rattle.pta_base.specs.declared.place.Place.{Place}
use Rattle.c_types.specs.declared.term.Form.{Form}
use Rattle.c_types.specs.Trees.{Ctype, Ctypes, NoTypes, MoreTypes, VoidType, BoolType, IntegerType, FloatingType, VaListType, PointerTo, ArrayOf, FunctionFrom, StructureOf, UnionOf}
use Rattle.core_tree.specs.declared.node.Op.{Op}
use Rattle.core_tree.specs.declared.node.NodeKind.TheVariants.{Fetch, Deref, NextArg}
use Rattle.c_types.specs.Table.{size_below}
use Rattle.core_tree.specs.Typed.{Sort, NoNode, PlaceNode, ValueNode, StatementNode, decayed}
use Rattle.c_consts.specs.Core.{Core, Cores, core_sort, ctype_of, place_of, over}
use Rattle.c_inits.specs.Made.{Part}
use Rattle.c_senses.specs.Given.{Given, Fits, Refuses, ◌>>=◌}
use Rattle.c_senses.specs.World.{World, extent, has_size, Meaning, Object, Function, TypeName, Tag, Value, same_type, members_of, way_to}
use Rattle.c_senses.specs.Nulls.{is_null}
use Rattle.c_senses.specs.Sense.{Sense, core_of, value_in, type_of_sense, IsCore, IsType}
use Rattle.c_senses.specs.Conversions.{is_scalar, place_width, OperandSort, Whole, Address, Aggregate, Other, Target, ToVoid, ToFunction, ToWhole, ToPointer, ToStructure, ToUnion, ToOther, operand_of, is_fetched, is_character, character_kind, value_of, value_of_sort, fetched_or_decayed, upcast, upcast_or, from_structure, target_of, pointers, to_pointer, to_whole, to_other, conversion, typed, is_list}
use Rattle.c_senses.specs.Operators.{compared, is_void, is_object, Between, Numeric, Shifting, Adding, Subtracting, Ordering, Equating, BothTrue, EitherTrue, Following, NoOperator, numeric_row, shift_row, moved, plus_row, minus_row, order_row, joined, pointers_joined, equality_row, Both, between, promoted_row, not_row, branches, choice_row}
use Rattle.c_senses.specs.Objects.{lacks_length, is_array, is_place_sort, is_assigned, moves_pointer, takes_so_many, count_of, is_returned, named_width, text_core, name_row, address_row, target_row, indirection_row, element_row, index_row, member_step, part_at, along, member_row, arrow_row, assign_row, update_sorts, update_row, further, arguments, call_of, callee_row, call_row, cast_row, size_row, align_in, align_row, sized_expression, further_value, start_row, copy_row, next_row, end_row, start_named, started, copied, is_list_place, last_named, dropped}
use Rattle.refusal_laws.specs.Refusals.{IsOther, IsBuilt}
use Rattle.refusal_laws.proofs.Steps.{then_built, if_built, some_built, either_built}

-- ---- conversions

pub typed_built : (at : ℕ) (t : Ctype) (g : Given Core) → IsBuilt g → IsBuilt (typed at t g)
typed_built at FloatingType g h = tt
typed_built at t g h = h

value_by : (w : World) (at : ℕ) (c : Core) (sort : Sort) → IsBuilt (value_of_sort w at c sort)
value_by w at c NoNode = tt
value_by w at c PlaceNode = by (decayed (ctype_of c))
  where
    by : (o : Option Ctype) → IsBuilt (fetched_or_decayed w at c o)
    by (Some pointer) = tt
    by None = if_built (is_fetched w (operand_of (ctype_of c)) || is_list (ctype_of c)) Operand at (Fits (over Fetch (place_of c) (ctype_of c) c)) tt tt
value_by w at c ValueNode = tt
value_by w at c StatementNode = tt

pub value_built : (w : World) (at : ℕ) (c : Core) → IsBuilt (value_of w at c)
value_built w at c = value_by w at c (core_sort c)

pub core_built : (at : ℕ) (x : Sense) → IsBuilt (core_of at x)
core_built at (IsCore c) = tt
core_built at x = tt

pub value_in_built : (w : World) (at : ℕ) (x : Sense) → IsBuilt (value_in w at x)
value_in_built w at x = then_built {B = Core} (core_of at x) (value_of w at) (core_built at x) (λ c. value_built w at c)

pub type_built : (at : ℕ) (x : Sense) → IsBuilt (type_of_sense at x)
type_built at (IsType t) = tt
type_built at x = tt

upcast_built : (at : ℕ) (kind : Kind) (o : Option Core) → IsOther kind → IsBuilt (upcast_or at kind o)
upcast_built at kind None h = h
upcast_built at kind (Some c) h = tt

structure_built : (w : World) (cast : Bool) (at : ℕ) (v : Core) (from to : Ctype) (kind : Kind) → IsOther kind → IsBuilt (from_structure w cast at v from to kind)
structure_built w false at v from to kind h = h
structure_built w true at v from to kind h = upcast_built at kind (upcast w from to v) h

character_other : (t : Ctype) → IsOther (character_kind t)
character_other t = by (is_character t)
  where
    by : (b : Bool) → IsOther (if b then CharacterCast else Operand)
    by true = tt
    by false = tt

pointers_built : (w : World) (cast : Bool) (at : ℕ) (v : Core) (from to : Ctype) (a b : Target) → IsBuilt (pointers w cast at v from to a b)
pointers_built w cast at v from to ToFunction ToFunction = tt
pointers_built w cast at v from to ToFunction ToVoid = tt
pointers_built w cast at v from to ToFunction (ToWhole b) = tt
pointers_built w cast at v from to ToFunction ToPointer = tt
pointers_built w cast at v from to ToFunction (ToStructure b) = tt
pointers_built w cast at v from to ToFunction (ToUnion b) = tt
pointers_built w cast at v from to ToFunction ToOther = tt
pointers_built w cast at v from to ToVoid ToFunction = tt
pointers_built w cast at v from to ToVoid ToVoid = tt
pointers_built w cast at v from to ToVoid (ToWhole b) = tt
pointers_built w cast at v from to ToVoid ToPointer = tt
pointers_built w cast at v from to ToVoid (ToStructure b) = tt
pointers_built w cast at v from to ToVoid (ToUnion b) = tt
pointers_built w cast at v from to ToVoid ToOther = tt
pointers_built w cast at v from to (ToWhole a) ToFunction = tt
pointers_built w cast at v from to (ToWhole a) ToVoid = tt
pointers_built w cast at v from to (ToWhole a) (ToWhole b) = if_built {A = Core} (a == b) IntegerSizeCast at _ tt tt
pointers_built w cast at v from to (ToWhole a) ToPointer = tt
pointers_built w cast at v from to (ToWhole a) (ToStructure b) = tt
pointers_built w cast at v from to (ToWhole a) (ToUnion b) = tt
pointers_built w cast at v from to (ToWhole a) ToOther = tt
pointers_built w cast at v from to ToPointer ToFunction = tt
pointers_built w cast at v from to ToPointer ToVoid = tt
pointers_built w cast at v from to ToPointer (ToWhole b) = tt
pointers_built w cast at v from to ToPointer ToPointer = tt
pointers_built w cast at v from to ToPointer (ToStructure b) = tt
pointers_built w cast at v from to ToPointer (ToUnion b) = tt
pointers_built w cast at v from to ToPointer ToOther = tt
pointers_built w cast at v from to (ToStructure a) ToFunction = tt
pointers_built w cast at v from to (ToStructure a) ToVoid = tt
pointers_built w cast at v from to (ToStructure a) (ToWhole b) = structure_built w cast at v from to (character_kind to) (character_other to)
pointers_built w cast at v from to (ToStructure a) ToPointer = structure_built w cast at v from to Operand tt
pointers_built w cast at v from to (ToStructure a) (ToStructure b) = structure_built w cast at v from to StructureCast tt
pointers_built w cast at v from to (ToStructure a) (ToUnion b) = structure_built w cast at v from to StructureCast tt
pointers_built w cast at v from to (ToStructure a) ToOther = structure_built w cast at v from to Operand tt
pointers_built w cast at v from to (ToUnion a) ToFunction = tt
pointers_built w cast at v from to (ToUnion a) ToVoid = tt
pointers_built w cast at v from to (ToUnion a) (ToWhole b) = tt
pointers_built w cast at v from to (ToUnion a) ToPointer = tt
pointers_built w cast at v from to (ToUnion a) (ToStructure b) = tt
pointers_built w cast at v from to (ToUnion a) (ToUnion b) = tt
pointers_built w cast at v from to (ToUnion a) ToOther = tt
pointers_built w cast at v from to ToOther ToFunction = tt
pointers_built w cast at v from to ToOther ToVoid = tt
pointers_built w cast at v from to ToOther (ToWhole b) = tt
pointers_built w cast at v from to ToOther ToPointer = tt
pointers_built w cast at v from to ToOther (ToStructure b) = tt
pointers_built w cast at v from to ToOther (ToUnion b) = tt
pointers_built w cast at v from to ToOther ToOther = tt

to_pointer_built : (w : World) (cast : Bool) (at : ℕ) (v : Core) (to : Ctype) (x : OperandSort) → IsBuilt (to_pointer w cast at v to x)
to_pointer_built w cast at v to Whole = tt
to_pointer_built w cast at v to (Address from) = pointers_built w cast at v from to (target_of from) (target_of to)
to_pointer_built w cast at v to (Aggregate tag) = tt
to_pointer_built w cast at v to Other = tt

to_whole_built : (pointer : Bool) (at : ℕ) (v : Core) (t : Ctype) (x : OperandSort) → IsBuilt (to_whole pointer at v t x)
to_whole_built pointer at v t Whole = tt
to_whole_built pointer at v t (Address from) = if_built {A = Core} pointer Operand at _ tt tt
to_whole_built pointer at v t (Aggregate tag) = tt
to_whole_built pointer at v t Other = tt

to_other_built : (w : World) (cast : Bool) (at : ℕ) (v : Core) (t : Ctype) → IsBuilt (to_other w cast at v t)
to_other_built w cast at v VoidType = if_built {A = Core} cast Operand at _ tt tt
to_other_built w cast at v BoolType = to_whole_built true at v BoolType (operand_of (ctype_of v))
to_other_built w cast at v (IntegerType size rank signed) = to_whole_built cast at v (IntegerType size rank signed) (operand_of (ctype_of v))
to_other_built w cast at v (PointerTo to) = either_built {A = Core} (is_null v) _ _ tt (to_pointer_built w cast at v to (operand_of (ctype_of v)))
to_other_built w cast at v FloatingType = tt
to_other_built w cast at v VaListType = tt
to_other_built w cast at v (ArrayOf of n) = tt
to_other_built w cast at v (FunctionFrom r ps f) = tt
to_other_built w cast at v (StructureOf tag) = tt
to_other_built w cast at v (UnionOf tag) = tt

pub conversion_built : (w : World) (cast : Bool) (at : ℕ) (v : Core) (t : Ctype) → IsBuilt (conversion w cast at v t)
conversion_built w cast at v t = either_built {A = Core} (same_type (ctype_of v) t) _ _ tt (to_other_built w cast at v t)

-- ---- operators

numeric_built : (w : World) (op : Op) (place : Place) (at : ℕ) (a b : Core) (x y : OperandSort) → IsBuilt (numeric_row w op place at a b x y)
numeric_built w op place at a b Whole Whole = tt
numeric_built w op place at a b x y = tt

shift_built : (w : World) (op : Op) (place : Place) (at : ℕ) (a b : Core) (x y : OperandSort) → IsBuilt (shift_row w op place at a b x y)
shift_built w op place at a b Whole Whole = tt
shift_built w op place at a b x y = tt

moved_built : (w : World) (minus : Bool) (place : Place) (at : ℕ) (p n : Core) (to : Ctype) → IsBuilt (moved w minus place at p n to)
moved_built w minus place at p n to = if_built {A = Core} (has_size w to) Operand at _ tt tt

plus_built : (w : World) (place : Place) (at : ℕ) (a b : Core) (x y : OperandSort) → IsBuilt (plus_row w place at a b x y)
plus_built w place at a b Whole Whole = tt
plus_built w place at a b (Address to) Whole = moved_built w false place at a b to
plus_built w place at a b Whole (Address to) = moved_built w false place at b a to
plus_built w place at a b x y = tt

minus_built : (w : World) (place : Place) (at : ℕ) (a b : Core) (x y : OperandSort) → IsBuilt (minus_row w place at a b x y)
minus_built w place at a b Whole Whole = tt
minus_built w place at a b (Address to) Whole = moved_built w true place at a b to
minus_built w place at a b (Address x) (Address y) = if_built {A = Core} (same_type x y) Operand at _ tt tt
minus_built w place at a b x y = tt

order_built : (w : World) (op : Op) (place : Place) (at : ℕ) (a b : Core) (x y : OperandSort) → IsBuilt (order_row w op place at a b x y)
order_built w op place at a b Whole Whole = tt
order_built w op place at a b (Address x) (Address y) = if_built {A = Core} (same_type x y) Operand at _ tt tt
order_built w op place at a b x y = tt

joined_built : (at : ℕ) (a b : Core) (x y : Ctype) → IsBuilt (joined at a b x y)
joined_built at a b x y =
    either_built {A = Both} (same_type x y) _ _ tt (either_built {A = Both} (is_null b) _ _ tt (either_built {A = Both} (is_null a) _ _ tt (either_built {A = Both} (is_void y && is_object x) _ _ tt (either_built {A = Both} (is_void x && is_object y) _ _ tt tt))))

pub pointers_joined_built : (at : ℕ) (a b : Core) (x y : OperandSort) → IsBuilt (pointers_joined at a b x y)
pointers_joined_built at a b (Address x) (Address y) = joined_built at a b x y
pointers_joined_built at a b (Address x) Whole = if_built {A = Both} (is_null b) Operand at _ tt tt
pointers_joined_built at a b Whole (Address y) = if_built {A = Both} (is_null a) Operand at _ tt tt
pointers_joined_built at a b x y = tt

equality_built : (w : World) (op : Op) (place : Place) (at : ℕ) (a b : Core) (x y : OperandSort) → IsBuilt (equality_row w op place at a b x y)
equality_built w op place at a b Whole Whole = tt
equality_built w op place at a b Whole (Address y) = then_built {B = Core} (pointers_joined at a b Whole (Address y)) (λ both. Fits (compared op place both.left both.right)) (pointers_joined_built at a b Whole (Address y)) (λ both. tt)
equality_built w op place at a b Whole (Aggregate tag) = tt
equality_built w op place at a b Whole Other = tt
equality_built w op place at a b (Address x) y = then_built {B = Core} (pointers_joined at a b (Address x) y) (λ both. Fits (compared op place both.left both.right)) (pointers_joined_built at a b (Address x) y) (λ both. tt)
equality_built w op place at a b (Aggregate tag) y = then_built {B = Core} (pointers_joined at a b (Aggregate tag) y) (λ both. Fits (compared op place both.left both.right)) (pointers_joined_built at a b (Aggregate tag) y) (λ both. tt)
equality_built w op place at a b Other y = then_built {B = Core} (pointers_joined at a b Other y) (λ both. Fits (compared op place both.left both.right)) (pointers_joined_built at a b Other y) (λ both. tt)

pub between_built : (w : World) (o : Between) (place : Place) (at : ℕ) (a b : Core) → IsBuilt (between w o place at a b)
between_built w (Numeric op) place at a b = numeric_built w op place at a b (operand_of (ctype_of a)) (operand_of (ctype_of b))
between_built w (Shifting op) place at a b = shift_built w op place at a b (operand_of (ctype_of a)) (operand_of (ctype_of b))
between_built w Adding place at a b = plus_built w place at a b (operand_of (ctype_of a)) (operand_of (ctype_of b))
between_built w Subtracting place at a b = minus_built w place at a b (operand_of (ctype_of a)) (operand_of (ctype_of b))
between_built w (Ordering op) place at a b = order_built w op place at a b (operand_of (ctype_of a)) (operand_of (ctype_of b))
between_built w (Equating op) place at a b = equality_built w op place at a b (operand_of (ctype_of a)) (operand_of (ctype_of b))
between_built w BothTrue place at a b = if_built {A = Core} (is_scalar (operand_of (ctype_of a)) && is_scalar (operand_of (ctype_of b))) Operand at _ tt tt
between_built w EitherTrue place at a b = if_built {A = Core} (is_scalar (operand_of (ctype_of a)) && is_scalar (operand_of (ctype_of b))) Operand at _ tt tt
between_built w Following place at a b = tt
between_built w NoOperator place at a b = tt

pub promoted_built : (w : World) (op : Op) (place : Place) (at : ℕ) (v : Core) (x : OperandSort) → IsBuilt (promoted_row w op place at v x)
promoted_built w op place at v Whole = tt
promoted_built w op place at v x = tt

pub not_built : (place : Place) (at : ℕ) (v : Core) → IsBuilt (not_row place at v)
not_built place at v = if_built {A = Core} (is_scalar (operand_of (ctype_of v))) Operand at _ tt tt

branches_built : (w : World) (at : ℕ) (a b : Core) (x y : OperandSort) → IsBuilt (branches w at a b x y)
branches_built w at a b Whole Whole = tt
branches_built w at a b Whole (Address y) = either_built {A = Both} (same_type (ctype_of a) (ctype_of b)) _ _ tt (pointers_joined_built at a b Whole (Address y))
branches_built w at a b Whole (Aggregate tag) = either_built {A = Both} (same_type (ctype_of a) (ctype_of b)) _ _ tt tt
branches_built w at a b Whole Other = either_built {A = Both} (same_type (ctype_of a) (ctype_of b)) _ _ tt tt
branches_built w at a b (Address x) y = either_built {A = Both} (same_type (ctype_of a) (ctype_of b)) _ _ tt (pointers_joined_built at a b (Address x) y)
branches_built w at a b (Aggregate tag) y = either_built {A = Both} (same_type (ctype_of a) (ctype_of b)) _ _ tt (pointers_joined_built at a b (Aggregate tag) y)
branches_built w at a b Other y = either_built {A = Both} (same_type (ctype_of a) (ctype_of b)) _ _ tt (pointers_joined_built at a b Other y)

pub choice_built : (w : World) (place : Place) (at : ℕ) (c a b : Core) → IsBuilt (choice_row w place at c a b)
choice_built w place at c a b =
    if_built {A = Core} (is_scalar (operand_of (ctype_of c))) Operand at _ tt (then_built {B = Core} (branches w at a b (operand_of (ctype_of a)) (operand_of (ctype_of b))) _ (branches_built w at a b (operand_of (ctype_of a)) (operand_of (ctype_of b))) (λ both. tt))

-- ---- places and calls

pub name_built : (w : World) (place : Place) (at : ℕ) (o : Option Meaning) → IsBuilt (name_row w place at o)
name_built w place at None = by w.own_name
  where
    by : (o : Option (List ℕ)) → IsBuilt (elim o as (λ _. Given Core) [ None ↦ Refuses Operand at | Some name ↦ Fits (text_core place name) ])
    by None = tt
    by (Some name) = tt
name_built w place at (Some (Object entity t)) = typed_built at t _ (if_built {A = Core} (w.may_name entity) Operand at _ tt tt)
name_built w place at (Some (Function entity t)) = tt
name_built w place at (Some (TypeName t)) = tt
name_built w place at (Some (Tag tag)) = tt
name_built w place at (Some (Value n)) = tt

pub address_built : (w : World) (place : Place) (at : ℕ) (c : Core) (sort : Sort) → IsBuilt (address_row w place at c sort)
address_built w place at c PlaceNode = if_built {A = Core} (is_none (place_width w c)) Operand at _ tt tt
address_built w place at c sort = tt

target_built : (place : Place) (at : ℕ) (v : Core) (t : Ctype) → IsBuilt (target_row place at v t)
target_built place at v VoidType = tt
target_built place at v FloatingType = tt
target_built place at v VaListType = tt
target_built place at v t = tt

pub indirection_built : (place : Place) (at : ℕ) (v : Core) (x : OperandSort) → IsBuilt (indirection_row place at v x)
indirection_built place at v (Address to) = target_built place at v to
indirection_built place at v x = tt

element_built : (w : World) (place : Place) (at : ℕ) (a b : Core) (to : Ctype) → IsBuilt (element_row w place at a b to)
element_built w place at a b to = then_built {B = Core} (moved w false place at a b to) _ (moved_built w false place at a b to) (λ p. target_built place at p to)

pub index_built : (w : World) (place : Place) (at : ℕ) (a b : Core) (x y : OperandSort) → IsBuilt (index_row w place at a b x y)
index_built w place at a b (Address to) Whole = element_built w place at a b to
index_built w place at a b Whole (Address to) = element_built w place at b a to
index_built w place at a b x y = tt

step_built : (place : Place) (at : ℕ) (c : Core) (k : ℕ) (m : Part) → IsBuilt (member_step place at c k m)
step_built place at c k m = either_built {A = Core} (lacks_length m.type) _ _ tt (either_built {A = Core} (is_array m.type && not (is_place_sort (core_sort c))) _ _ tt (typed_built at m.type _ tt))

along_built : (w : World) (place : Place) (at : ℕ) (way : List ℕ) (c : Core) → IsBuilt (along w place at way c)
along_built w place at [] c = tt
along_built w place at (k ∷ way) c =
    some_built {B = Core} (part_at (members_of w (ctype_of c)) k) Operand at (λ m. member_step place at c k m >>= along w place at way) tt
    (λ m. then_built {B = Core} (member_step place at c k m) (along w place at way) (step_built place at c k m) (λ d. along_built w place at way d))

pub member_built : (w : World) (place : Place) (at : ℕ) (name : List ℕ) (c : Core) → IsBuilt (member_row w place at name c)
member_built w place at name c = some_built {B = Core} (way_to w name (ctype_of c)) Operand at _ tt (λ way. along_built w place at way c)

pub arrow_built : (w : World) (place : Place) (at : ℕ) (name : List ℕ) (v : Core) (x : OperandSort) → IsBuilt (arrow_row w place at name v x)
arrow_built w place at name v (Address to) = if_built {A = Core} (is_some (members_of w to)) Operand at _ tt (member_built w place at name (over Deref place to v))
arrow_built w place at name v x = tt

pub assign_built : (w : World) (place : Place) (at : ℕ) (p v : Core) → IsBuilt (assign_row w place at p v)
assign_built w place at p v = if_built {A = Core} (is_place_sort (core_sort p) && (is_assigned w (operand_of (ctype_of p)) || is_list (ctype_of p))) Operand at _ tt (then_built {B = Core} (conversion w false at v (ctype_of p)) _ (conversion_built w false at v (ctype_of p)) (λ x. tt))

sorts_built : (w : World) (op : Op) (post : Bool) (place : Place) (at : ℕ) (p v : Core) (x y : OperandSort) → IsBuilt (update_sorts w op post place at p v x y)
sorts_built w op post place at p v Whole Whole = tt
sorts_built w op post place at p v (Address to) Whole = if_built {A = Core} (moves_pointer op) Operand at _ tt tt
sorts_built w op post place at p v x y = tt

pub update_built : (w : World) (op : Op) (post : Bool) (place : Place) (at : ℕ) (p v : Core) → IsBuilt (update_row w op post place at p v)
update_built w op post place at p v = if_built {A = Core} (is_place_sort (core_sort p)) Operand at _ tt (sorts_built w op post place at p v (operand_of (ctype_of p)) (operand_of (ctype_of v)))

-- ---- operations on variadic lists

started_built : (place : Place) (at : ℕ) (a : Core) (o : Option ℕ) → IsBuilt (start_named place at a o)
started_built place at a None = tt
started_built place at a (Some function) = if_built {A = Core} (is_list_place a) Operand at (Fits (started place a function)) tt tt

pub start_built : (w : World) (place : Place) (at : ℕ) (a n : Core) → IsBuilt (start_row w place at a n)
start_built w place at a n = started_built place at a (last_named w n)

pub copy_built : (w : World) (place : Place) (at : ℕ) (a b : Core) → IsBuilt (copy_row w place at a b)
copy_built w place at a b =
    if_built {A = Core} (is_list_place a) Operand at _ tt
    (then_built {B = Core} (value_of w at b) (copied place at a) (value_built w at b)
    (λ v. if_built {A = Core} (is_list (ctype_of v)) Operand at _ tt tt))

pub next_built : (place : Place) (at : ℕ) (a : Core) (t : Ctype) → IsBuilt (next_row place at a t)
next_built place at a t = typed_built at t _ (if_built {A = Core} (is_list_place a && is_scalar (operand_of t)) Operand at (Fits (over NextArg place t a)) tt tt)

pub end_built : (w : World) (place : Place) (at : ℕ) (a : Core) → IsBuilt (end_row w place at a)
end_built w place at a =
    if_built {A = Core} (is_list_place a) Operand at _ tt (then_built {B = Core} (address_row w place at a (core_sort a)) (λ x. Fits (dropped place x)) (address_built w place at a (core_sort a)) (λ x. tt))

further_built : (w : World) (at : ℕ) (v : Core) (x : OperandSort) → IsBuilt (further w at v x)
further_built w at v Whole = tt
further_built w at v (Address to) = tt
further_built w at v (Aggregate tag) = tt
further_built w at v Other = tt

further_value_built : (w : World) (at : ℕ) (v : Core) → IsBuilt (further_value w at v)
further_value_built w at v = by (is_list (ctype_of v))
  where
    by : (b : Bool) → IsBuilt (if b then Fits v else further w at v (operand_of (ctype_of v)))
    by true = tt
    by false = further_built w at v (operand_of (ctype_of v))

arguments_built : (w : World) (at : ℕ) (ps : Ctypes) (args : List Core) → IsBuilt (arguments w at ps args)
arguments_built w at NoTypes [] = tt
arguments_built w at (MoreTypes t ps) [] = tt
arguments_built w at NoTypes (a ∷ rest) = go (arguments_built w at NoTypes rest)
  where
    go : IsBuilt (arguments w at NoTypes rest) → IsBuilt (arguments w at NoTypes (a ∷ rest))
    go h =
        then_built {B = Cores} (value_of w at a) _ (value_built w at a)
        (λ v. then_built {B = Cores} (further_value w at v) _ (further_value_built w at v) (λ x. then_built {B = Cores} (arguments w at NoTypes rest) _ h (λ more. tt)))
arguments_built w at (MoreTypes t ps) (a ∷ rest) = go (arguments_built w at ps rest)
  where
    go : IsBuilt (arguments w at ps rest) → IsBuilt (arguments w at (MoreTypes t ps) (a ∷ rest))
    go h =
        then_built {B = Cores} (value_of w at a) _ (value_built w at a)
        (λ v. then_built {B = Cores} (conversion w false at v t) _ (conversion_built w false at v t) (λ x. then_built {B = Cores} (arguments w at ps rest) _ h (λ more. tt)))

call_of_built : (w : World) (place : Place) (at : ℕ) (c : Core) (r : Ctype) (ps : Ctypes) (form : Form) (args : List Core) → IsBuilt (call_of w place at c r ps form args)
call_of_built w place at c r ps form args = if_built {A = Core} (takes_so_many form (count_of ps) (length args)) Operand at _ tt (then_built {B = Core} (arguments w at ps args) _ (arguments_built w at ps args) (λ cores. if_built {A = Core} (is_returned w r) Operand at _ tt tt))

callee_built : (w : World) (place : Place) (at : ℕ) (c : Core) (args : List Core) (t : Ctype) → IsBuilt (callee_row w place at c args t)
callee_built w place at c args (PointerTo (FunctionFrom r ps form)) = typed_built at r _ (if_built {A = Core} w.may_call Operand at _ tt (call_of_built w place at c r ps form args))
callee_built w place at c args t = tt

pub call_built : (w : World) (place : Place) (at : ℕ) (f : Core) (args : List Core) → IsBuilt (call_row w place at f args)
call_built w place at f args = then_built {B = Core} (value_of w at f) _ (value_built w at f) (λ c. callee_built w place at c args (ctype_of c))

pub cast_built : (w : World) (at : ℕ) (x : Core) (t : Ctype) → IsBuilt (cast_row w at x t)
cast_built w at x t = typed_built at t _ (then_built {B = Core} (value_of w at x) _ (value_built w at x) (λ v. conversion_built w true at v t))

pub size_built : (w : World) (place : Place) (at : ℕ) (t : Ctype) → IsBuilt (size_row w place at t)
size_built w place at t = some_built {A = ℕ} {B = Core} (size_below (extent w t)) Operand at _ tt (λ n. tt)

pub align_built : (w : World) (place : Place) (at : ℕ) (t : Ctype) → IsBuilt (align_row w place at t)
align_built w place at t = some_built {A = ℕ} {B = Core} (align_in (extent w t)) Operand at _ tt (λ n. tt)

pub sized_built : (w : World) (place : Place) (at : ℕ) (c : Core) → IsBuilt (sized_expression w place at c)
sized_built w place at c = if_built {A = Core} (is_none (named_width w c)) Operand at _ tt (size_built w place at (ctype_of c))
