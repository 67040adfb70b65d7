-- Which types agree, and which values turn into which.
use Rattle.std.specs.Prelude.{◌≡◌, ⊤, Option, Some, None}
use Rattle.c_types.specs.Trees.{Ctype, VoidType, BoolType, IntegerType, PointerTo, ArrayOf, FunctionFrom}
use Rattle.c_types.specs.Trees.{StructureOf}
use Rattle.c_types.specs.declared.term.Form.TheVariants.{Unspecified}
use Rattle.c_types.specs.Table.{Table}
use Rattle.type_rules.specs.Members.{IsMemberOf}

-- types agree: the same, or a list () with any list, or an array without a length with one of any length
abbrev pub Agree : Ctype → Ctype → Type 0
Agree (FunctionFrom r ps Unspecified) (FunctionFrom s qs f) = r ≡ s
Agree (FunctionFrom r ps f) (FunctionFrom s qs Unspecified) = r ≡ s
Agree (ArrayOf a None) (ArrayOf b n) = a ≡ b
Agree (ArrayOf a n) (ArrayOf b None) = a ≡ b
Agree a b = a ≡ b

-- the conversions that a Convert may be
abbrev pub Converts : Ctype → Ctype → Type 0
Converts from VoidType = ⊤
Converts (PointerTo (FunctionFrom r ps f)) (PointerTo (FunctionFrom s qs g)) = ⊤
Converts (PointerTo VoidType) (PointerTo (FunctionFrom s qs g)) = ⊥
Converts (PointerTo (FunctionFrom r ps f)) (PointerTo VoidType) = ⊥
Converts (PointerTo VoidType) (PointerTo b) = ⊤
Converts (PointerTo a) (PointerTo VoidType) = ⊤
Converts (PointerTo (IntegerType size rank signed)) (PointerTo (IntegerType other r g)) = size ≡ other
Converts (PointerTo BoolType) (PointerTo (IntegerType size rank signed)) = size ≡ 1
Converts (PointerTo (IntegerType size rank signed)) (PointerTo BoolType) = size ≡ 1
Converts (PointerTo (PointerTo a)) (PointerTo (PointerTo b)) = ⊤
Converts (PointerTo a) BoolType = ⊤
Converts (PointerTo a) (IntegerType size rank signed) = ⊤
Converts (IntegerType s r g) (IntegerType t q h) = ⊤
Converts (IntegerType s r g) BoolType = ⊤
Converts BoolType (IntegerType t q h) = ⊤
Converts a b = ⊥

-- the pointer that an array or a function turns into
abbrev pub decayed : Ctype → Option Ctype
decayed (ArrayOf of length) = Some (PointerTo of)
decayed (FunctionFrom result parameters form) = Some (PointerTo (FunctionFrom result parameters form))
decayed t = None

-- from a pointer to a structure to a pointer to its first member
abbrev pub IsFirstOf : Table → Ctype → Ctype → Type 0
IsFirstOf table (PointerTo (StructureOf tag)) (PointerTo first) = IsMemberOf table (StructureOf tag) 0 first
IsFirstOf table a t = ⊥

-- what a call gives
abbrev pub result_of : Ctype → Ctype
result_of (FunctionFrom r ps f) = r
result_of t = VoidType
