-- Types carried from one table to another, by the type of each tag there.
use Rattle.std.specs.Prelude.{ℕ, Bool, true, ◌&&◌, Option, Some, None, is_some}
use Rattle.c_types.specs.Trees.{Ctype, Ctypes, NoTypes, MoreTypes, VoidType, BoolType, IntegerType, FloatingType}
use Rattle.c_types.specs.Trees.{VaListType, PointerTo, ArrayOf, FunctionFrom, StructureOf, UnionOf}

-- a tag without a type there is carried to void; of it is said that it isn't given
abbrev pub or_void : Option Ctype → Ctype
or_void None = VoidType
or_void (Some t) = t

-- by the type of each tag
abbrev mutual
  pub carried_type : (ℕ → Option Ctype) → Ctype → Ctype
  carried_type tag VoidType = VoidType
  carried_type tag BoolType = BoolType
  carried_type tag (IntegerType size rank signed) = IntegerType size rank signed
  carried_type tag FloatingType = FloatingType
  carried_type tag VaListType = VaListType
  carried_type tag (PointerTo to) = PointerTo (carried_type tag to)
  carried_type tag (ArrayOf of length) = ArrayOf (carried_type tag of) length
  carried_type tag (FunctionFrom result parameters form) =
      FunctionFrom (carried_type tag result) (carried_types tag parameters) form
  carried_type tag (StructureOf k) = or_void (tag k)
  carried_type tag (UnionOf k) = or_void (tag k)

  pub carried_types : (ℕ → Option Ctype) → Ctypes → Ctypes
  carried_types tag NoTypes = NoTypes
  carried_types tag (MoreTypes t rest) = MoreTypes (carried_type tag t) (carried_types tag rest)

-- each tag in a type has one
abbrev mutual
  pub is_given_type : (ℕ → Option Ctype) → Ctype → Bool
  is_given_type tag VoidType = true
  is_given_type tag BoolType = true
  is_given_type tag (IntegerType size rank signed) = true
  is_given_type tag FloatingType = true
  is_given_type tag VaListType = true
  is_given_type tag (PointerTo to) = is_given_type tag to
  is_given_type tag (ArrayOf of length) = is_given_type tag of
  is_given_type tag (FunctionFrom result parameters form) =
      is_given_type tag result && are_given_types tag parameters
  is_given_type tag (StructureOf k) = is_some (tag k)
  is_given_type tag (UnionOf k) = is_some (tag k)

  pub are_given_types : (ℕ → Option Ctype) → Ctypes → Bool
  are_given_types tag NoTypes = true
  are_given_types tag (MoreTypes t rest) = is_given_type tag t && are_given_types tag rest
