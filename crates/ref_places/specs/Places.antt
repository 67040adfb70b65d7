-- The rows of places, and of pointers made of them.
use Rattle.std.specs.Prelude.{ℕ, ◌+◌, Bool, true, false, if◌then◌else◌, List, [], ◌∷◌, ◌++◌, Option, Some, None}
use Rattle.std.specs.Prelude.{Result, Ok, Err, slice_get}
use Rattle.c_types.specs.declared.key.ObjectKey.{ObjectKey}
use Rattle.c_types.specs.declared.key.ObjectKey.TheVariants.{Varargs as VarargsKey}
use Rattle.c_types.specs.declared.term.PathStep.{PathStep}
use Rattle.c_types.specs.declared.term.PathStep.TheVariants.{Index, Member}
use Rattle.c_types.specs.Trees.{Ctype, PointerTo, ArrayOf, FunctionFrom}
use Rattle.c_types.specs.Table.{Table}
use Rattle.obj_space.specs.Found.{same_object}
use Rattle.ref_cells.specs.declared.cells.Reason.{Reason}
use Rattle.ref_cells.specs.declared.cells.Reason.TheVariants.{NullUse, Mismatch}
use Rattle.ref_cells.specs.declared.cells.Cell.{Cell}
use Rattle.ref_cells.specs.declared.cells.Cell.TheVariants.{Null, Pointer, Function}
use Rattle.ref_cells.specs.declared.instance.Instance.{Instance}
use Rattle.ref_elements.specs.Types.{same_type}
use Rattle.ref_places.specs.Parts.{type_there}

-- the instance is of that object
abbrev pub has_key : Option Instance → ObjectKey → Bool
has_key None key = false
has_key (Some inst) key = same_object inst.key key

-- the one of a frame's instances that is of an object
abbrev pub own_instance : List Instance → ObjectKey → List ℕ → Option ℕ
own_instance memory key [] = None
own_instance memory key (i ∷ rest) =
    if has_key (slice_get memory i) key then Some i else own_instance memory key rest

-- the first instance of an object, of those from number i on
abbrev pub first_instance : ObjectKey → ℕ → List Instance → Option ℕ
first_instance key i [] = None
first_instance key i (inst ∷ rest) = if same_object inst.key key then Some i else first_instance key (i + 1) rest

abbrev pub either_instance : Option ℕ → Option ℕ → Option ℕ
either_instance (Some i) other = Some i
either_instance None other = other

-- the instance of an object: the frame's own, or the one that lives for the whole run
abbrev pub instance_of : List Instance → List ℕ → ObjectKey → Option ℕ
instance_of memory own key = either_instance (own_instance memory key own) (first_instance key 0 memory)

abbrev pub whole_place : Option ℕ → Result Cell Reason
whole_place None = Err Mismatch
whole_place (Some i) = Ok (Pointer i [] false)

abbrev pub first_place : Option ℕ → Result Cell Reason
first_place None = Err Mismatch
first_place (Some i) = Ok (Pointer i (Index 0 ∷ []) false)

-- Named, Text, Literal: the object's instance
unfoldable pub named_row : List Instance → List ℕ → ObjectKey → Result Cell Reason
named_row memory own key = whole_place (instance_of memory own key)

-- VarArgs: the first place of what this activation of a variadic function was passed past its parameters
unfoldable pub varargs_row : List Instance → List ℕ → ℕ → Result Cell Reason
varargs_row memory own e = first_place (instance_of memory own (VarargsKey e))

-- Deref: the pointer as a place
abbrev pub deref_row : Cell → Result Cell Reason
deref_row Null = Err NullUse
deref_row (Pointer instance path past) = Ok (Pointer instance path past)
deref_row (Function key) = Ok (Function key)
deref_row cell = Err Mismatch

abbrev pub is_type : Ctype → Option Ctype → Bool
is_type t None = false
is_type t (Some found) = same_type found t

-- a place with one step more
abbrev pub stepped : Cell → PathStep → Result Cell Reason
stepped (Pointer instance path past) step = Ok (Pointer instance (path ++ step ∷ []) past)
stepped cell step = Err Mismatch

-- Member k of a structure or union s: the place is of that very type
unfoldable pub member_row : Table → List Instance → Cell → Ctype → ℕ → Result Cell Reason
member_row table memory place s k =
    if is_type s (type_there table memory place) then stepped place (Member k) else Err Mismatch

abbrev pub is_array : Option Ctype → Bool
is_array (Some (ArrayOf of length)) = true
is_array t = false

-- Decay: a function's place stays, an array's goes to its first element
unfoldable pub decay_row : Table → List Instance → Cell → Ctype → Result Cell Reason
decay_row table memory place (FunctionFrom result parameters form) = Ok place
decay_row table memory place t =
    if is_array (type_there table memory place) then stepped place (Index 0) else Err Mismatch

-- Upcast: from a pointer to a structure, of that type, to one to its first member
abbrev pub upcast_row : Table → List Instance → Cell → Ctype → Result Cell Reason
upcast_row table memory Null t = Ok Null
upcast_row table memory cell (PointerTo s) = member_row table memory cell s 0
upcast_row table memory cell t = Err Mismatch
