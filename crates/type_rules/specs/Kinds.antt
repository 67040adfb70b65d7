-- What a type is.
use Rattle.std.specs.Prelude.{◌≡◌, ◌≢◌, ◌≤◌, ⊤, true, None, ◌⊎◌}
use Rattle.c_types.specs.Trees.{Ctype, Ctypes, NoTypes, MoreTypes, VoidType, BoolType, IntegerType, PointerTo}
use Rattle.c_types.specs.Trees.{ArrayOf, FunctionFrom, StructureOf, UnionOf, VaListType}
use Rattle.c_types.specs.declared.term.Form.TheVariants.{Variadic}

-- a type of whole numbers
abbrev pub IsInteger : Ctype → Type 0
IsInteger BoolType = ⊤
IsInteger (IntegerType size rank signed) = ⊤
IsInteger t = ⊥

abbrev pub IsPointer : Ctype → Type 0
IsPointer (PointerTo to) = ⊤
IsPointer t = ⊥

abbrev pub IsScalar : Ctype → Type 0
IsScalar t = IsInteger t ⊎ IsPointer t

abbrev pub IsAggregate : Ctype → Type 0
IsAggregate (StructureOf tag) = ⊤
IsAggregate (UnionOf tag) = ⊤
IsAggregate t = ⊥

abbrev pub IsArray : Ctype → Type 0
IsArray (ArrayOf of length) = ⊤
IsArray t = ⊥

abbrev pub IsFunction : Ctype → Type 0
IsFunction (FunctionFrom r ps f) = ⊤
IsFunction t = ⊥

-- the type of variadic lists
abbrev pub IsList : Ctype → Type 0
IsList VaListType = ⊤
IsList t = ⊥

-- a function that takes arguments past its parameters
abbrev pub IsVariadic : Ctype → Type 0
IsVariadic (FunctionFrom r ps Variadic) = ⊤
IsVariadic t = ⊥

-- integers and pointers alone
abbrev pub AreScalars : Ctypes → Type 0
AreScalars NoTypes = ⊤
AreScalars (MoreTypes t rest) = IsScalar t × AreScalars rest

-- a function that may be called from outside: of integers and pointers alone, and of no more arguments than these
abbrev pub IsEntryType : Ctype → Type 0
IsEntryType (FunctionFrom r ps f) = (f ≢ Variadic) × ((r ≡ VoidType) ⊎ IsScalar r) × AreScalars ps
IsEntryType t = ⊥

-- a type that a fetch or an assignment may have
abbrev pub IsStored : Ctype → Type 0
IsStored t = IsScalar t ⊎ (IsAggregate t ⊎ IsList t)

-- an integer type that promotion leaves as it is
abbrev pub IsPromoted : Ctype → Type 0
IsPromoted (IntegerType size rank signed) = 4 ≤ size
IsPromoted t = ⊥

-- a type of an argument past the parameters
abbrev pub IsPassed : Ctype → Type 0
IsPassed (IntegerType size rank signed) = 4 ≤ size
IsPassed (PointerTo to) = ⊤
IsPassed (StructureOf tag) = ⊤
IsPassed (UnionOf tag) = ⊤
IsPassed VaListType = ⊤
IsPassed t = ⊥

-- a type whose values are compared
abbrev pub IsComparable : Ctype → Type 0
IsComparable t = IsPromoted t ⊎ IsPointer t

abbrev pub LacksLength : Ctype → Type 0
LacksLength (ArrayOf of None) = ⊤
LacksLength t = ⊥

abbrev pub character : Ctype
character = IntegerType 1 1 true

abbrev pub int : Ctype
int = IntegerType 4 4 true

abbrev pub long : Ctype
long = IntegerType 8 5 true
