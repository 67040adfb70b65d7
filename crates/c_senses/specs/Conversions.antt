-- Values of places, promotions, usual conversions, and the table of conversions (C11 6.3).
use Rattle.std.specs.Prelude.{ℕ, zero, suc, ◌==◌, Bool, true, false, ◌&&◌, ◌||◌, not, nat_lt, List, Option, Some}
use Rattle.std.specs.Prelude.{None, slice_get, is_some, if◌then◌else◌}
use Rattle.c_scope.specs.passed.pta_base.declared.kind.Kind.{Kind}
use Rattle.c_scope.specs.passed.pta_base.declared.kind.Kind.TheVariants.{Operand, NumberToPointer, StructureCast}
use Rattle.c_scope.specs.passed.pta_base.declared.kind.Kind.TheVariants.{IntegerSizeCast, CharacterCast, Floating}
use Rattle.c_inits.specs.passed.c_types.Trees.{Ctype, VoidType, BoolType, IntegerType, FloatingType, VaListType}
use Rattle.c_inits.specs.passed.c_types.Trees.{PointerTo, ArrayOf, FunctionFrom, StructureOf, UnionOf}
use Rattle.c_consts.specs.passed.core_tree.declared.node.NodeKind.TheVariants.{NullValue, Fetch, Decay, Convert}
use Rattle.c_consts.specs.passed.core_tree.declared.node.NodeKind.TheVariants.{Member, MemberOfValue, Upcast}
use Rattle.c_consts.specs.passed.core_tree.Typed.{Sort, NoNode, PlaceNode, ValueNode, StatementNode, decayed}
use Rattle.c_consts.specs.passed.core_tree.Rows.{int}
use Rattle.c_consts.specs.Core.{Core, Of, NoCores, MoreCores, place_of, ctype_of, core_sort, leaf, over}
use Rattle.c_inits.specs.Made.{Part}
use Rattle.c_senses.specs.Given.{Given, Fits, Refuses, given_if}
use Rattle.c_senses.specs.World.{World, members_of, same_type}
use Rattle.c_senses.specs.Nulls.{is_null}

-- the sorts of types that operators tell apart: whole numbers, pointers, structures and unions, and others
pub data OperandSort : Type 0 where
  Whole : OperandSort
  Address : (to : Ctype) → OperandSort
  Aggregate : (tag : ℕ) → OperandSort
  Other : OperandSort

abbrev pub operand_of : Ctype → OperandSort
operand_of BoolType = Whole
operand_of (IntegerType size rank signed) = Whole
operand_of (PointerTo to) = Address to
operand_of (StructureOf tag) = Aggregate tag
operand_of (UnionOf tag) = Aggregate tag
operand_of t = Other

abbrev pub is_scalar : OperandSort → Bool
is_scalar Whole = true
is_scalar (Address to) = true
is_scalar (Aggregate tag) = false
is_scalar Other = false

-- the type of variadic lists (7.16p3)
abbrev pub is_list : Ctype → Bool
is_list VaListType = true
is_list t = false

-- 6.3.2.1: the value of a place. An array or a function decays; a scalar, a variadic list, and a structure or union
-- that is complete, is fetched; any other place has no value.
abbrev pub is_fetched : World → OperandSort → Bool
is_fetched w Whole = true
is_fetched w (Address to) = true
is_fetched w (Aggregate tag) = is_some (w.members tag)
is_fetched w Other = false

abbrev pub fetched_or_decayed : World → ℕ → Core → Option Ctype → Given Core
fetched_or_decayed w at c (Some pointer) = Fits (over Decay (place_of c) pointer c)
fetched_or_decayed w at c None =
    given_if (is_fetched w (operand_of (ctype_of c)) || is_list (ctype_of c)) Operand at
    (Fits (over Fetch (place_of c) (ctype_of c) c))

abbrev pub value_of_sort : World → ℕ → Core → Sort → Given Core
value_of_sort w at c NoNode = Refuses Operand at
value_of_sort w at c PlaceNode = fetched_or_decayed w at c (decayed (ctype_of c))
value_of_sort w at c ValueNode = Fits c
value_of_sort w at c StatementNode = Refuses Operand at

-- the value of an expression for the row of syntax node `at`
abbrev pub value_of : World → ℕ → Core → Given Core
value_of w at c = value_of_sort w at c (core_sort c)

-- a Convert stands only where the type changes
abbrev pub converted : Ctype → Core → Core
converted t v = over Convert (place_of v) t v

abbrev pub made : Ctype → Core → Core
made t v = if same_type (ctype_of v) t then v else converted t v

-- the width of the bit-field that a value is read from
abbrev pub width_in : Option (List Part) → ℕ → Option ℕ
width_in None k = None
width_in (Some members) k = elim (slice_get members k) [ None ↦ None | Some m ↦ m.bits ]

abbrev pub place_width : World → Core → Option ℕ
place_width w (Of (Member k) place type (MoreCores p NoCores)) = width_in (members_of w (ctype_of p)) k
place_width w c = None

abbrev pub read_width : World → Core → Option ℕ
read_width w (Of Fetch place type (MoreCores p NoCores)) = place_width w p
read_width w (Of (MemberOfValue k) place type (MoreCores v NoCores)) = width_in (members_of w (ctype_of v)) k
read_width w c = None

abbrev pub is_narrow : Option ℕ → Bool
is_narrow None = false
is_narrow (Some bits) = nat_lt bits 32

-- 6.3.1.1p2: what an integer is promoted to. A bit-field of type unsigned int whose width is below 32 becomes int.
abbrev pub promoted : Ctype → Bool → Ctype
promoted BoolType narrow = int
promoted (IntegerType size rank signed) narrow =
    if nat_lt size 4 || ((size == 4) && (not signed && narrow)) then int else IntegerType size rank signed
promoted t narrow = t

abbrev pub promotion : World → Core → Core
promotion w v = made (promoted (ctype_of v) (is_narrow (read_width w v))) v

-- 6.3.1.8: the common type of two promoted integers
abbrev pub higher : Bool → Ctype → Ctype → Ctype
higher true a b = b
higher false a b = a

abbrev pub common : Ctype → Ctype → Ctype
common (IntegerType size rank true) (IntegerType other r true) =
    higher (nat_lt rank r) (IntegerType size rank true) (IntegerType other r true)
common (IntegerType size rank false) (IntegerType other r false) =
    higher (nat_lt rank r) (IntegerType size rank false) (IntegerType other r false)
common (IntegerType size rank false) (IntegerType other r true) =
    if nat_lt rank r
    then (if nat_lt size other then IntegerType other r true else IntegerType other r false)
    else IntegerType size rank false
common (IntegerType size rank true) (IntegerType other r false) =
    if nat_lt r rank
    then (if nat_lt other size then IntegerType size rank true else IntegerType size rank false)
    else IntegerType other r false
common a b = a

-- the sorts of types that pointers point to
pub data Target : Type 0 where
  ToVoid : Target
  ToFunction : Target
  ToWhole : (size : ℕ) → Target
  ToPointer : Target
  ToStructure : (tag : ℕ) → Target
  ToUnion : (tag : ℕ) → Target
  ToOther : Target

abbrev pub target_of : Ctype → Target
target_of VoidType = ToVoid
target_of BoolType = ToWhole 1
target_of (IntegerType size rank signed) = ToWhole size
target_of FloatingType = ToOther
target_of VaListType = ToOther
target_of (PointerTo to) = ToPointer
target_of (ArrayOf of length) = ToOther
target_of (FunctionFrom result parameters form) = ToFunction
target_of (StructureOf tag) = ToStructure tag
target_of (UnionOf tag) = ToUnion tag

-- a character type has the size 1 and is no _Bool
abbrev pub is_character : Ctype → Bool
is_character (IntegerType size rank signed) = size == 1
is_character t = false

abbrev pub is_function_target : Target → Bool
is_function_target ToFunction = true
is_function_target target = false

abbrev pub null_value : Ctype → Core → Core
null_value t v = leaf NullValue (place_of v) t

-- the pointers on the way from a structure down to the first member's type, and so on, that is sought
abbrev pub first_member_type : World → Ctype → Option Ctype
first_member_type w (StructureOf tag) =
    elim
    (w.members tag)
    [ None ↦ None | Some members ↦ elim (slice_get members 0) [ None ↦ None | Some m ↦ Some m.type ] ]
first_member_type w t = None

abbrev pub upcast_within : World → ℕ → Ctype → Option Ctype → Core → Option Core
upcast_within w zero sought first v = None
upcast_within w (suc depth) sought None v = None
upcast_within w (suc depth) sought (Some t) v =
    let one = over Upcast (place_of v) (PointerTo t) v in
    if same_type t sought then Some one else upcast_within w depth sought (first_member_type w t) one

abbrev pub upcast : World → Ctype → Ctype → Core → Option Core
upcast w from to v = upcast_within w (suc w.tags) to (first_member_type w from) v

abbrev pub upcast_or : ℕ → Kind → Option Core → Given Core
upcast_or at kind None = Refuses kind at
upcast_or at kind (Some c) = Fits c

-- from a pointer to a structure, where no other row fits
abbrev pub from_structure : World → Bool → ℕ → Core → Ctype → Ctype → Kind → Given Core
from_structure w false at v from to kind = Refuses kind at
from_structure w true at v from to kind = upcast_or at kind (upcast w from to v)

abbrev pub character_kind : Ctype → Kind
character_kind t = if is_character t then CharacterCast else Operand

-- from a pointer to a pointer of another type
abbrev pub pointers : World → Bool → ℕ → Core → Ctype → Ctype → Target → Target → Given Core
pointers w cast at v from to ToFunction ToFunction = Fits (converted (PointerTo to) v)
pointers w cast at v from to ToFunction other = Refuses Operand at
pointers w cast at v from to other ToFunction = Refuses Operand at
pointers w cast at v from to ToVoid other = Fits (converted (PointerTo to) v)
pointers w cast at v from to other ToVoid = Fits (converted (PointerTo to) v)
pointers w cast at v from to (ToWhole a) (ToWhole b) =
    given_if (a == b) IntegerSizeCast at (Fits (converted (PointerTo to) v))
pointers w cast at v from to ToPointer ToPointer = Fits (converted (PointerTo to) v)
pointers w cast at v from to (ToStructure a) (ToStructure b) = from_structure w cast at v from to StructureCast
pointers w cast at v from to (ToStructure a) (ToUnion b) = from_structure w cast at v from to StructureCast
pointers w cast at v from to (ToStructure a) (ToWhole b) = from_structure w cast at v from to (character_kind to)
pointers w cast at v from to (ToStructure a) ToPointer = from_structure w cast at v from to Operand
pointers w cast at v from to (ToStructure a) ToOther = from_structure w cast at v from to Operand
pointers w cast at v from to (ToUnion a) (ToStructure b) = Refuses StructureCast at
pointers w cast at v from to (ToUnion a) (ToUnion b) = Refuses StructureCast at
pointers w cast at v from to a b = Refuses Operand at

abbrev pub to_pointer : World → Bool → ℕ → Core → Ctype → OperandSort → Given Core
to_pointer w cast at v to Whole = Refuses NumberToPointer at
to_pointer w cast at v to (Address from) = pointers w cast at v from to (target_of from) (target_of to)
to_pointer w cast at v to (Aggregate tag) = Refuses Operand at
to_pointer w cast at v to Other = Refuses Operand at

-- to _Bool, and to another integer type
abbrev pub to_whole : Bool → ℕ → Core → Ctype → OperandSort → Given Core
to_whole pointer at v t Whole = Fits (converted t v)
to_whole pointer at v t (Address from) = given_if pointer Operand at (Fits (converted t v))
to_whole pointer at v t (Aggregate tag) = Refuses Operand at
to_whole pointer at v t Other = Refuses Operand at

-- between types that differ
abbrev pub to_other : World → Bool → ℕ → Core → Ctype → Given Core
to_other w cast at v VoidType = given_if cast Operand at (Fits (converted VoidType v))
to_other w cast at v BoolType = to_whole true at v BoolType (operand_of (ctype_of v))
to_other w cast at v (IntegerType size rank signed) =
    to_whole cast at v (IntegerType size rank signed) (operand_of (ctype_of v))
to_other w cast at v (PointerTo to) =
    if is_null v then Fits (null_value (PointerTo to) v) else to_pointer w cast at v to (operand_of (ctype_of v))
to_other w cast at v t = Refuses Operand at

-- the row of the table of conversions from a value to a type, for syntax node `at`; some rows are those of a cast
-- alone
abbrev pub conversion : World → Bool → ℕ → Core → Ctype → Given Core
conversion w cast at v t = if same_type (ctype_of v) t then Fits v else to_other w cast at v t

-- an expression of floating type is refused whatever else is wrong with it
abbrev pub typed : ℕ → Ctype → Given Core → Given Core
typed at FloatingType g = Refuses Floating at
typed at t g = g
