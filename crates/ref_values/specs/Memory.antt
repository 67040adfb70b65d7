-- The rows of values that read memory or change it.
use Rattle.std.specs.Prelude.{ℕ, ◌==◌, ℤ, pos, ◌&&◌, ◌||◌, not, Bool, true, false, if◌then◌else◌, List, [], ◌∷◌}
use Rattle.std.specs.Prelude.{Option, Some, None, Result, Ok, Err, slice_get, is_some}
use Rattle.c_types.specs.declared.term.PathStep.TheVariants.{Member}
use Rattle.c_types.specs.declared.term.TypeId.{TypeId}
use Rattle.c_types.specs.declared.term.Term.{Term}
use Rattle.c_types.specs.declared.term.Term.TheVariants.{Pointer as PointerTerm}
use Rattle.c_types.specs.Trees.{Ctype, VoidType, BoolType, IntegerType, PointerTo, UnionOf}
use Rattle.c_types.specs.Table.{Table, type_of, extent_in, size_below}
use Rattle.core_tree.specs.declared.node.Op.{Op}
use Rattle.core_tree.specs.declared.node.Op.TheVariants.{Minus}
use Rattle.ref_cells.specs.declared.cells.Reason.{Reason}
use Rattle.ref_cells.specs.declared.cells.Reason.TheVariants.{Mismatch}
use Rattle.ref_cells.specs.declared.cells.Cell.{Cell}
use Rattle.ref_cells.specs.declared.cells.Cell.TheVariants.{Unset, Number, Null, Pointer}
use Rattle.ref_cells.specs.declared.cells.Value.{Value}
use Rattle.ref_cells.specs.declared.instance.Instance.{Instance}
use Rattle.ref_cells.specs.Cells.{CellList, under}
use Rattle.ref_cells.specs.Numbers.{converted}
use Rattle.ref_cells.specs.Values.{active}
use Rattle.ref_cells.specs.Wholes.{is_allocated}
use Rattle.ref_mem.specs.Reads.{read, one_cell}
use Rattle.ref_mem.specs.Writes.{write, changed}
use Rattle.ref_elements.specs.Runs.{◌>>=◌}
use Rattle.ref_elements.specs.Parts.{pointers_of}
use Rattle.ref_elements.specs.Outcomes.{Effect, gives, stores_and_gives, no_value, number_value}
use Rattle.ref_state.specs.Values.{cell_of}
use Rattle.ref_values.specs.Numbers.{over_two, promoted, update_type, is_narrow}
use Rattle.ref_places.specs.Pointers.{signed_by, moved}

-- Fetch: a read
abbrev pub fetch_row : Table → List Instance → Cell → Ctype → Effect
fetch_row table memory place t = read table memory place t >>= λ value. gives memory value

-- the pointers that a value of these cells puts under a place
abbrev pub stores_at : Cell → CellList → List (Cell × Cell)
stores_at (Pointer instance path past) cells = pointers_of instance ((path, cells) ∷ [])
stores_at place cells = []

-- Assign: a write, which gives the value as it came
abbrev pub assign_row : Table → List Instance → Cell → Ctype → Value → Effect
assign_row table memory place t value =
    write table memory place t value >>= λ after. stores_and_gives after value (stores_at place value.cells)

-- the type that a pointer's type points to, by its number
abbrev pub pointee : Option Term → Option TypeId
pointee (Some (PointerTerm to)) = Some to
pointee term = None

abbrev pub complete_only : Table → Option TypeId → Option TypeId
complete_only table None = None
complete_only table (Some id) = if is_some (extent_in table (type_of table id.0)) then Some id else None

-- what is allocated and has no type yet gets one (C11 6.5p6)
abbrev pub type_given : List Instance → ℕ → Option TypeId → Option Instance → List Instance
type_given memory i (Some id) (Some inst) =
    if is_some inst.ty || not (is_allocated inst.key) then memory
    else changed memory i (Some inst) (λ inst. record inst { ty = Some id })
type_given memory i id inst = memory

-- an allocated object without a type gets that of its elements by a pointer to a complete type
abbrev pub typed_by : Table → List Instance → Cell → TypeId → List Instance
typed_by table memory (Pointer i path past) ty =
    type_given memory i (complete_only table (pointee (slice_get table.terms ty.0))) (slice_get memory i)
typed_by table memory cell ty = memory

abbrev pub is_null : Cell → Bool
is_null Null = true
is_null cell = false

-- a pointer converted
abbrev pub pointer_converted : Table → List Instance → Cell → TypeId → Ctype → ℕ → Effect
pointer_converted table memory cell ty BoolType word =
    gives memory (one_cell (Number (if is_null cell then pos 0 else pos 1)))
pointer_converted table memory cell ty (IntegerType size rank signed) word =
    gives memory (number_value (IntegerType size rank signed) (pos word))
pointer_converted table memory cell ty t word = gives (typed_by table memory cell ty) (one_cell cell)

-- a number converted
abbrev pub number_converted : List Instance → Ctype → Cell → Effect
number_converted memory t (Number n) = gives memory (number_value t n)
number_converted memory t cell = Err Mismatch

abbrev pub scalar_converted : Table → List Instance → Ctype → Cell → TypeId → ℕ → Effect
scalar_converted table memory (PointerTo to) cell ty word =
    pointer_converted table memory cell ty (type_of table ty.0) word
scalar_converted table memory a cell ty word = number_converted memory (type_of table ty.0) cell

abbrev pub converted_to : Table → List Instance → Ctype → Cell → TypeId → ℕ → Ctype → Effect
converted_to table memory a cell ty word VoidType = gives memory no_value
converted_to table memory a cell ty word t = scalar_converted table memory a cell ty word

-- Convert: of a value of type a to the type of that number
unfoldable pub convert_row : Table → List Instance → Ctype → Cell → TypeId → ℕ → Effect
convert_row table memory a cell ty word = converted_to table memory a cell ty word (type_of table ty.0)

abbrev pub is_minus : Op → Bool
is_minus Minus = true
is_minus op = false

abbrev pub pointer_moved : Table → List Instance → Cell → Bool → Cell → Result Cell Reason
pointer_moved table memory cell minus (Number k) = moved table memory cell (signed_by minus k)
pointer_moved table memory cell minus count = Err Mismatch

abbrev pub is_integer : Ctype → Bool
is_integer BoolType = true
is_integer (IntegerType size rank signed) = true
is_integer t = false

-- the number that is kept, given what the operator gives
abbrev pub number_kept : Ctype → Result ℤ Reason → Result Cell Reason
number_kept t (Ok n) = Ok (Number (converted t n))
number_kept t (Err reason) = Err reason

-- a number computed in a type, from a place's and another one
abbrev pub computed_in : Ctype → Op → ℤ → ℤ → Result ℤ Reason
computed_in common op old v = over_two op common (converted common old) v

-- an integer's number after an update
abbrev pub number_updated : Ctype → Op → Option ℕ → ℤ → Ctype → ℤ → Result Cell Reason
number_updated t op bits old value_type v =
    number_kept t (computed_in (update_type op (promoted t (is_narrow bits)) value_type) op old v)

abbrev pub scalar_updated : Ctype → Op → Option ℕ → Cell → Ctype → Cell → Result Cell Reason
scalar_updated t op bits (Number old) value_type (Number v) =
    if is_integer t then number_updated t op bits old value_type v else Err Mismatch
scalar_updated t op bits old value_type v = Err Mismatch

abbrev pub cell_updated : Table → List Instance → Ctype → Op → Option ℕ → Cell → Ctype → Cell → Result Cell Reason
cell_updated table memory (PointerTo to) op bits old value_type v = pointer_moved table memory old (is_minus op) v
cell_updated table memory t op bits old value_type v = scalar_updated t op bits old value_type v

abbrev pub update_written : Table → List Instance → Cell → Ctype → Bool → Cell → Cell → Effect
update_written table memory place t post old new =
    write table memory place t (one_cell new) >>= λ after.
    stores_and_gives after (if post then one_cell old else one_cell new) (stores_at place (([], new) ∷ []))

-- Update: a read, a computation and a write
unfoldable pub update_row : Table → List Instance → Cell → Ctype → Op → Bool → Option ℕ → Ctype → Cell → Effect
update_row table memory place t op post bits value_type v =
    read table memory place t >>= λ old.
    cell_updated table memory t op bits (cell_of old) value_type v >>= λ new.
    update_written table memory place t post (cell_of old) new

abbrev pub is_union : Ctype → Bool
is_union (UnionOf tag) = true
is_union t = false

abbrev pub is_empty : CellList → Bool
is_empty [] = true
is_empty (e ∷ rest) = false

-- a scalar that is unset counts as a value that wasn't returned
abbrev pub value_within : CellList → Value
value_within (([], Unset) ∷ []) = no_value
value_within cells = record { cells = cells }

-- MemberOfValue: member k of a value of type s; of a union the active one alone
unfoldable pub member_of_value_row : List Instance → Ctype → ℕ → CellList → Effect
member_of_value_row memory s k cells =
    if is_union s && (not (is_empty cells) && not (active cells == k)) then Err Mismatch
    else gives memory (value_within (under (Member k) cells))

-- whether a value of that size has scalars: one without any takes no bytes
abbrev pub has_scalars : Option ℕ → Bool
has_scalars None = false
has_scalars (Some size) = not (size == 0)

-- a value that wasn't returned, of a type that has scalars
abbrev pub is_missing : Table → Ctype → Value → Bool
is_missing table t value = is_empty value.cells && has_scalars (size_below (extent_in table t))
