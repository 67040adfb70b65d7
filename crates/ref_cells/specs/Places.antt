-- The checks of a read and of a write, in their order.
use Rattle.std.specs.Prelude.{ℕ, ◌==◌, nat_le, Bool, true, false, cond, if◌then◌else◌, List, [], ◌∷◌, Option, Some}
use Rattle.std.specs.Prelude.{None, Result, Ok, Err, slice_get, All, ⊤, ◌<◌}
use Rattle.c_types.specs.declared.term.PathStep.{PathStep}
use Rattle.c_types.specs.declared.term.PathStep.TheVariants.{Index}
use Rattle.c_types.specs.declared.term.TypeId.{TypeId}
use Rattle.c_types.specs.Trees.{VaListType}
use Rattle.c_types.specs.Trees.{Ctype, BoolType, IntegerType, PointerTo, ArrayOf, StructureOf, UnionOf}
use Rattle.c_types.specs.Table.{Table}
use Rattle.c_types.specs.Paths.{part_type}
use Rattle.ref_cells.specs.declared.cells.Reason.{Reason}
use Rattle.ref_cells.specs.declared.cells.Reason.TheVariants.{NullUse, DeadUse, OutOfRange, Mismatch}
use Rattle.ref_cells.specs.declared.cells.Cell.{Cell}
use Rattle.ref_cells.specs.declared.cells.Cell.TheVariants.{Null, Pointer}
use Rattle.ref_cells.specs.declared.instance.Instance.{Instance}
use Rattle.ref_cells.specs.Wholes.{whole_of}

-- an index that is out of its array
abbrev pub is_out : Ctype → PathStep → Bool
is_out (ArrayOf of (Some n)) (Index i) = nat_le n i
is_out t step = false

-- the type at the end of a path, from a type on
abbrev pub walk : Table → Option Ctype → List PathStep → Result Ctype Reason
walk table None path = Err Mismatch
walk table (Some t) [] = Ok t
walk table (Some t) (step ∷ rest) = cond (is_out t step) (Err OutOfRange) (walk table (part_type table t step) rest)

-- the type at a path in an instance: it lives, the path isn't past its place and is in range, and it has a type
abbrev pub type_in : Table → Option Instance → List PathStep → Bool → Result Ctype Reason
type_in table None path past = Err Mismatch
type_in table (Some inst) path past =
    if inst.live then (if past then Err OutOfRange else walk table (whole_of table inst) path) else Err DeadUse

-- the type at a place
abbrev pub type_at_place : Table → List Instance → Cell → Result Ctype Reason
type_at_place table memory Null = Err NullUse
type_at_place table memory (Pointer instance path past) = type_in table (slice_get memory instance) path past
type_at_place table memory cell = Err Mismatch

-- scalars of one class, or one structure or union
abbrev pub is_alike : Ctype → Ctype → Bool
is_alike BoolType BoolType = true
is_alike BoolType (IntegerType size rank signed) = size == 1
is_alike (IntegerType size rank signed) BoolType = size == 1
is_alike (IntegerType size rank signed) (IntegerType other r g) = size == other
is_alike (PointerTo a) (PointerTo b) = true
is_alike VaListType VaListType = true
is_alike (StructureOf a) (StructureOf b) = a == b
is_alike (UnionOf a) (UnionOf b) = a == b
is_alike a b = false

abbrev pub fitting : Ctype → Result Ctype Reason → Result Ctype Reason
fitting t (Err reason) = Err reason
fitting t (Ok found) = if is_alike found t then Ok found else Err Mismatch

-- the type at a place, where a read or write of a type may be
unfoldable pub reach : Table → List Instance → Cell → Ctype → Result Ctype Reason
reach table memory place t = fitting t (type_at_place table memory place)

abbrev pub IsKnown : ℕ → Option TypeId → Type 0
IsKnown types None = ⊤
IsKnown types (Some id) = id.0 < types

-- each instance's type is one of the first so many
abbrev pub AreKnown : ℕ → List Instance → Type 0
AreKnown types memory = All (λ inst. IsKnown types inst.ty) memory
