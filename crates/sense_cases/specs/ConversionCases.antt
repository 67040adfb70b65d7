-- What is converted, and how, written by hand from C11.
use Rattle.std.specs.Prelude.{pos, neg_ℤ, false, true, [], ◌∷◌, Some}
use Rattle.c_types.specs.Trees.{VoidType, BoolType, IntegerType, PointerTo, ArrayOf, StructureOf}
use Rattle.core_tree.specs.declared.node.Op.TheVariants.{Plus, Minus, ShiftLeft, Less, GreaterEqual, Equal}
use Rattle.core_tree.specs.declared.node.Op.TheVariants.{NotEqual, Complement}
use Rattle.core_tree.specs.declared.node.NodeKind.TheVariants.{Number, Text, Arith}
use Rattle.core_tree.specs.Rows.{int, long, character}
use Rattle.c_consts.specs.Core.{leaf, over}
use Rattle.sense_cases.specs.Columns.{at}
use Rattle.sense_cases.specs.Cores.{short, unsigned, unsigned_long, unsigned_long_long, ints, pointers, to_void, S}
use Rattle.sense_cases.specs.Cores.{of_void, procedure, takes_one, object, deref, member, read, decayed, number}
use Rattle.sense_cases.specs.Cores.{null, changed, upcast, moved, computed, assigned, chosen, expression, returned}
use Rattle.sense_cases.specs.Cores.{block, initialised, HasBody}
use Rattle.sense_cases.specs.ConversionTexts as text

-- 6.5.9: a null constant takes the other pointer's type; a pointer to an object is converted to void * beside one
abbrev pub NullCompared : Type 0
NullCompared = HasBody text.null_compared (block [] 8 (
    expression 10 (computed Equal 10 int (read (object 6 9 ints)) (null 11 ints))
    ∷ returned 13 (computed NotEqual 15 int (read (object 6 14 ints)) (null 20 ints))
    ∷ []))

-- 6.3.2.3p3: an enumerator, a null pointer to void and a constant of another type are null constants
abbrev pub NullAssigned : Type 0
NullAssigned = HasBody text.null_assigned (block [] 13 (
    expression 15 (assigned 15 (object 11 14 ints) (null 16 ints))
    ∷ expression 19 (assigned 19 (object 11 18 ints) (null 24 ints))
    ∷ expression 27 (assigned 27 (object 11 26 ints) (null 31 ints))
    ∷ []))

-- 6.3.2.3: a null constant as a pointer to a function; structures through a pointer to void
abbrev pub FunctionNull : Type 0
FunctionNull = HasBody text.function_null (block [] 13 (
    expression 15 (computed Equal 15 int (read (object 7 14 (PointerTo procedure))) (null 16 (PointerTo procedure)))
    ∷ expression 19 (assigned 19 (object 7 18 (PointerTo procedure)) (null 24 (PointerTo procedure)))
    ∷ []))

abbrev pub VoidCompared : Type 0
VoidCompared = HasBody text.void_compared (block [] 12 (
    returned 13
    (computed Equal 15 int (changed (PointerTo VoidType) (read (object 6 14 ints)))
    (read (object 10 16 (PointerTo VoidType))))
    ∷ []))

abbrev pub VoidPointers : Type 0
VoidPointers = HasBody text.void_pointers (block [] 12 (
    expression 14 (assigned 14 (object 10 13 to_void) (changed to_void (read (object 6 15 ints))))
    ∷ expression 18 (assigned 18 (object 6 17 ints) (changed ints (read (object 10 19 to_void))))
    ∷ []))

abbrev pub ThroughVoid : Type 0
ThroughVoid = HasBody text.through_void (block [] 27 (
    returned 28 (changed (PointerTo (StructureOf 10)) (changed to_void (read (object 25 33 (PointerTo S))))) ∷ []))

-- 6.5.15
abbrev pub Chosen : Type 0
Chosen =
    HasBody text.chosen
    (block [] 12
    (returned 13 (chosen 15 ints (read (object 10 14 int)) (read (object 7 16 ints)) (null 18 ints)) ∷ []))

-- 6.5.15: a null constant, a pointer to void, two void values, two integers
abbrev pub Choices : Type 0
Choices = HasBody text.choices (block [] 18 (
    expression 20 (chosen 20 ints (read (object 13 19 int)) (null 25 ints) (read (object 6 27 ints)))
    ∷ expression 30
    (chosen 30 to_void (read (object 13 29 int)) (read (object 10 31 to_void))
    (changed to_void (read (object 6 33 ints))))
    ∷ expression 36
    (chosen 36 VoidType (read (object 13 35 int)) (changed VoidType (number 0 40 int))
    (changed VoidType (number 1 45 int)))
    ∷ expression 48
    (chosen 48 long (read (object 13 47 int)) (changed long (changed int (read (object 16 49 character))))
    (number 1 51 long))
    ∷ []))

-- 6.5.4, 6.3: to void, from a pointer to an integer, between pointers to integers of one size, to void *; to _Bool,
-- between integers, a null constant
abbrev pub Casts : Type 0
Casts = HasBody text.casts (block [] 11 (
    expression 12 (changed VoidType (read (object 9 15 character)))
    ∷ expression 17 (changed long (read (object 6 20 ints)))
    ∷ expression 22 (changed (PointerTo unsigned) (read (object 6 26 ints)))
    ∷ expression 28 (changed (PointerTo VoidType) (read (object 6 32 ints)))
    ∷ []))

abbrev pub NumberCasts : Type 0
NumberCasts = HasBody text.number_casts (block [] 8 (
    expression 9 (changed BoolType (read (object 6 12 ints)))
    ∷ expression 14 (changed int (number 0 17 long))
    ∷ expression 19 (null 23 (PointerTo character))
    ∷ []))

-- 6.7.2.1p15: a pointer to a structure as one to its first member's first member, a step for each
abbrev pub Upcasts : Type 0
Upcasts = HasBody text.upcasts (block [] 26 (
    returned 27
    (read
    (deref 28 int
    (upcast ints
    (upcast (PointerTo (StructureOf 2)) (read (object 24 33 (PointerTo (StructureOf 10))))))))
    ∷ []))

abbrev pub ArrayUpcast : Type 0
ArrayUpcast =
    HasBody text.array_upcast
    (block [] 20
    (expression 21 (upcast (PointerTo (ArrayOf int (Some 3))) (read (object 18 30 (PointerTo S)))) ∷ []))

abbrev pub StructureCastSame : Type 0
StructureCastSame = HasBody text.structure_cast_same (block [] 16 (expression 17 (read (object 14 21 S)) ∷ []))

-- between pointers to pointers, between pointers to functions, and from a pointer to _Bool, without a cast
abbrev pub ImplicitConversions : Type 0
ImplicitConversions = HasBody text.implicit_conversions (block (42 ∷ []) 32 (
    expression 34
    (assigned 34 (object 7 33 pointers)
    (changed pointers (read (object 12 35 (PointerTo (PointerTo character))))))
    ∷ expression 38
    (assigned 38 (object 26 37 takes_one)
    (changed takes_one (read (object 17 39 (PointerTo (of_void VoidType))))))
    ∷ initialised 42 44 ([] ∷ []) (changed BoolType (read (object 7 44 pointers)) ∷ [])
    ∷ []))

-- 6.3.1.8: promotion and the usual conversion are two steps
abbrev pub UsualConversions : Type 0
UsualConversions = HasBody text.usual (block [] 13 (
    expression 15
    (computed Plus 15 unsigned (changed unsigned (changed int (read (object 5 14 short))))
    (read (object 8 16 unsigned)))
    ∷ returned 18 (computed Minus 20 long (changed long (read (object 8 19 unsigned))) (read (object 11 21 long)))
    ∷ []))

abbrev pub UnsignedBesideLong : Type 0
UnsignedBesideLong = HasBody text.unsigned_beside_long (block [] 16 (
    expression 18
    (computed Plus 18 unsigned_long_long (changed unsigned_long_long (read (object 6 17 unsigned_long)))
    (changed unsigned_long_long (read (object 10 19 (IntegerType 8 6 true)))))
    ∷ expression 22
    (computed ShiftLeft 22 int (changed int (read (object 14 21 (IntegerType 2 3 false))))
    (number 1 23 int))
    ∷ expression 25 (over (Arith Minus) (at 25) int (changed int (read (object 14 26 (IntegerType 2 3 false)))))
    ∷ expression 28 (over (Arith Complement) (at 28) unsigned_long (read (object 6 29 unsigned_long)))
    ∷ []))

abbrev pub LongCompared : Type 0
LongCompared = HasBody text.long_compared (block [] 10 (
    returned 11
    (computed GreaterEqual 13 int (read (object 5 12 long)) (changed long (read (object 8 14 int))))
    ∷ []))

abbrev pub UnaryPlus : Type 0
UnaryPlus =
    HasBody text.unary_plus
    (block [] 7 (returned 8 (over (Arith Plus) (at 9) int (changed int (read (object 5 10 character)))) ∷ []))

-- 6.3.1.1, 6.3.1.8
abbrev pub BoolArithmetic : Type 0
BoolArithmetic =
    HasBody text.bool_arithmetic
    (block [] 10
    (returned 11
    (computed Plus 13 int (changed int (read (object 5 12 BoolType)))
    (changed int (read (object 8 14 BoolType))))
    ∷ []))

-- 6.3.1.1p2: an unsigned int bit-field below 32 bits becomes int
abbrev pub BitFields : Type 0
BitFields = HasBody text.bit_fields (block [] 19 (
    returned 20
    (computed Less 24 int
    (changed int
    (read
    (member 0 22 unsigned
    (deref 22 (StructureOf 2) (read (object 17 21 (PointerTo (StructureOf 2))))))))
    (number 1 25 int))
    ∷ []))

abbrev pub NarrowFields : Type 0
NarrowFields = HasBody text.narrow_fields (block [] 29 (
    expression 30
    (over (Arith Plus) (at 30) int
    (changed int (read (member 0 32 BoolType (deref 32 S (read (object 27 31 (PointerTo S))))))))
    ∷ expression 35
    (over (Arith Plus) (at 35) int
    (changed int (read (member 1 37 character (deref 37 S (read (object 27 36 (PointerTo S))))))))
    ∷ expression 40
    (over (Arith Plus) (at 40) long
    (read (member 2 42 long (deref 42 S (read (object 27 41 (PointerTo S)))))))
    ∷ []))

-- 6.5.7: each operand is promoted by itself, and the left one's type is the result's
abbrev pub Shifts : Type 0
Shifts = HasBody text.shifts (block [] 10 (
    returned 11
    (changed long
    (computed ShiftLeft 13 int (changed int (read (object 5 12 character))) (read (object 8 14 long))))
    ∷ []))

-- 6.5.6: the integer isn't promoted, and the pointer comes first; a difference is a long
abbrev pub PointersMoved : Type 0
PointersMoved = HasBody text.pointers_moved (block [] 12 (
    expression 14 (moved false 14 (read (object 7 15 ints)) (read (object 10 13 character)))
    ∷ returned 17 (moved true 19 (read (object 7 18 ints)) (read (object 10 20 character)))
    ∷ []))

abbrev pub Difference : Type 0
Difference =
    HasBody text.difference
    (block [] 12 (returned 13 (computed Minus 15 long (read (object 6 14 ints)) (read (object 10 16 ints))) ∷ []))

-- 6.4.4.1, 6.4.4.4: the first type that holds a constant; a byte above 127 is a negative char
abbrev pub Constants : Type 0
Constants = HasBody text.constants (block [] 6 (
    expression 7 (number 4294967295 7 long)
    ∷ expression 9 (number 2147483648 9 unsigned)
    ∷ expression 11 (number 2147483648 11 unsigned)
    ∷ expression 13 (number 9223372036854775808 13 unsigned_long_long)
    ∷ expression 15 (leaf (Number (neg_ℤ (pos 1))) (at 15) int)
    ∷ expression 17 (number 1 17 long)
    ∷ []))

abbrev pub NegativeLong : Type 0
NegativeLong =
    HasBody text.negative_long
    (block [] 6 (returned 7 (over (Arith Minus) (at 8) long (number 2147483648 9 long)) ∷ []))

-- 6.4.4.4: escapes
abbrev pub Characters : Type 0
Characters = HasBody text.characters (block [] 6 (
    expression 7 (number 97 7 int) ∷ expression 9 (number 10 9 int) ∷ expression 11 (number 65 11 int)
    ∷ expression 13 (number 0 13 int) ∷ expression 15 (number 39 15 int) ∷ []))

-- 6.4.5, 6.4.2.2: the bytes of literals side by side; a function's own name
abbrev pub Strings : Type 0
Strings =
    HasBody text.strings
    (block [] 7
    (returned 8
    (decayed (PointerTo character) (leaf (Text (97 ∷ 98 ∷ 10 ∷ [])) (at 9) (ArrayOf character (Some 4))))
    ∷ []))

abbrev pub OctalString : Type 0
OctalString = HasBody text.octal_string (block [] 7 (
    returned 8
    (decayed (PointerTo character) (leaf (Text (1 ∷ 50 ∷ 74 ∷ [])) (at 9) (ArrayOf character (Some 4))))
    ∷ []))

abbrev pub OwnName : Type 0
OwnName = HasBody text.own_name (block [] 6 (
    returned 7
    (read
    (deref 9 character
    (moved false 9
    (decayed (PointerTo character) (leaf (Text (102 ∷ [])) (at 8) (ArrayOf character (Some 2))))
    (number 0 10 int))))
    ∷ []))

abbrev pub OwnNames : Type 0
OwnNames =
    HasBody text.own_names
    (block [] 6
    (expression 7 (decayed (PointerTo character) (leaf (Text (102 ∷ [])) (at 7) (ArrayOf character (Some 2))))
    ∷ []))

-- all of these
pub record ConversionsStand : Type 0 where
  pub null_compared : NullCompared
  pub null_assigned : NullAssigned
  pub function_null : FunctionNull
  pub void_compared : VoidCompared
  pub void_pointers : VoidPointers
  pub through_void : ThroughVoid
  pub chosen : Chosen
  pub choices : Choices
  pub casts : Casts
  pub number_casts : NumberCasts
  pub upcasts : Upcasts
  pub array_upcast : ArrayUpcast
  pub structure_cast_same : StructureCastSame
  pub implicit_conversions : ImplicitConversions
  pub usual_conversions : UsualConversions
  pub unsigned_beside_long : UnsignedBesideLong
  pub long_compared : LongCompared
  pub unary_plus : UnaryPlus
  pub bool_arithmetic : BoolArithmetic
  pub bit_fields : BitFields
  pub narrow_fields : NarrowFields
  pub shifts : Shifts
  pub pointers_moved : PointersMoved
  pub difference : Difference
  pub constants : Constants
  pub negative_long : NegativeLong
  pub characters : Characters
  pub strings : Strings
  pub octal_string : OctalString
  pub own_name : OwnName
  pub own_names : OwnNames
