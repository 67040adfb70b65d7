-- The numbers of types by which locations and nodes are of one type: all pointers are one.
use Rattle.std.specs.Prelude.{ℕ, ◌+◌, ◌==◌, if◌then◌else◌, Option, Some, None}
use Rattle.c_types.specs.Trees.{Ctype, VoidType, BoolType, IntegerType, FloatingType, VaListType, PointerTo}
use Rattle.c_types.specs.Trees.{ArrayOf, FunctionFrom, StructureOf, UnionOf}

-- integers by their size
abbrev pub integer_number : ℕ → ℕ
integer_number size = if size == 1 then 0 else (if size == 2 then 1 else (if size == 4 then 2 else 3))

-- 0 to 3 for integers of 1, 2, 4 and 8 bytes, 4 for pointers, 5 for functions, 6 for floating types, 7 for variadic
-- lists, and 8 and more for structures and unions by their tags; an array counts as its element
abbrev pub type_number : Ctype → ℕ
type_number VoidType = 5
type_number BoolType = 0
type_number (IntegerType size rank signed) = integer_number size
type_number FloatingType = 6
type_number VaListType = 7
type_number (PointerTo to) = 4
type_number (ArrayOf of length) = type_number of
type_number (FunctionFrom result parameters form) = 5
type_number (StructureOf tag) = 8 + tag
type_number (UnionOf tag) = 8 + tag

-- the type of an array's elements
abbrev pub element_of : Ctype → Option Ctype
element_of (ArrayOf of length) = Some of
element_of t = None
