-- Pointers moved and compared (C11 6.5.6, 6.5.8, 6.5.9).
use Rattle.std.specs.Prelude.{ℕ, ◌-◌, ◌==◌, ℤ, pos, ◌+ℤ◌, ◌-ℤ◌, int_le, nat_lt, nat_le, unsigned_abs, ◌&&◌, Bool}
use Rattle.std.specs.Prelude.{true, false, if◌then◌else◌, List, [], ◌∷◌, ◌++◌, Option, Some, None, Result, Ok, Err}
use Rattle.std.specs.Prelude.{take, length, slice_get}
use Rattle.std.specs.Ordering.{int_eq}
use Rattle.c_types.specs.declared.term.PathStep.{PathStep}
use Rattle.c_types.specs.declared.term.PathStep.TheVariants.{Index, Member}
use Rattle.c_types.specs.Trees.{Ctype, ArrayOf}
use Rattle.c_types.specs.Table.{Table}
use Rattle.obj_space.specs.Found.{same_object}
use Rattle.core_tree.specs.declared.node.Op.{Op}
use Rattle.core_tree.specs.declared.node.Op.TheVariants.{Minus, Less, Greater, LessEqual, GreaterEqual, Equal}
use Rattle.core_tree.specs.declared.node.Op.TheVariants.{NotEqual}
use Rattle.c_consts.specs.Wrapped.{truth}
use Rattle.ref_cells.specs.declared.cells.Reason.{Reason}
use Rattle.ref_cells.specs.declared.cells.Reason.TheVariants.{NullUse, OutOfRange, Mismatch}
use Rattle.ref_cells.specs.declared.cells.Cell.{Cell}
use Rattle.ref_cells.specs.declared.cells.Cell.TheVariants.{Null, Pointer, Function}
use Rattle.ref_cells.specs.declared.instance.Instance.{Instance}
use Rattle.ref_places.specs.Parts.{along, whole_in}

-- an index that is the last step of a path
abbrev pub index_in : Option PathStep → Option ℕ
index_in (Some (Index i)) = Some i
index_in step = None

abbrev pub last_index : List PathStep → Option ℕ
last_index path = index_in (slice_get path (length path - 1))

-- the path but for its last step
abbrev pub front : List PathStep → List PathStep
front path = take (length path - 1) path

-- how many elements an array has; what is no array, as an object without a type, has none
abbrev pub count_of : Option Ctype → ℕ
count_of (Some (ArrayOf of (Some n))) = n
count_of t = 0

-- the elements of the array in which the last index of a path is
abbrev pub elements_at : Table → Option Instance → List PathStep → ℕ
elements_at table inst path = count_of (along table (whole_in table inst) (front path))

-- an index moved within an array of so many elements, or to its end
abbrev pub index_moved : ℕ → ℕ → ℤ → Result ℕ Reason
index_moved count i k =
    if int_le (pos 0) (pos i +ℤ k)
    && int_le (pos i +ℤ k) (pos count) then Ok (unsigned_abs (pos i +ℤ k)) else Err OutOfRange

abbrev pub with_index : ℕ → List PathStep → Bool → Result ℕ Reason → Result Cell Reason
with_index instance path past (Ok i) = Ok (Pointer instance (front path ++ Index i ∷ []) past)
with_index instance path past (Err reason) = Err reason

-- the place itself, or one behind it
abbrev pub mark_moved : ℕ → List PathStep → Bool → ℤ → Result Cell Reason
mark_moved instance path past k =
    if int_eq k (pos 0) then Ok (Pointer instance path past)
    else (if past then (if int_eq k (pos 0 -ℤ pos 1) then Ok (Pointer instance path false) else Err OutOfRange)
    else (if int_eq k (pos 1) then Ok (Pointer instance path true) else Err OutOfRange))

abbrev pub place_moved : Table → List Instance → ℕ → List PathStep → Bool → ℤ → Option ℕ → Result Cell Reason
place_moved table memory instance path past k (Some i) =
    with_index instance path past (index_moved (elements_at table (slice_get memory instance) path) i k)
place_moved table memory instance path past k None = mark_moved instance path past k

-- a pointer moved by so many elements
unfoldable pub moved : Table → List Instance → Cell → ℤ → Result Cell Reason
moved table memory Null k = if int_eq k (pos 0) then Ok Null else Err NullUse
moved table memory (Function key) k = if int_eq k (pos 0) then Ok (Function key) else Err OutOfRange
moved table memory (Pointer instance path past) k = place_moved table memory instance path past k (last_index path)
moved table memory cell k = Err Mismatch

abbrev pub same_bool : Bool → Bool → Bool
same_bool true b = b
same_bool false true = false
same_bool false false = true

abbrev pub same_step : PathStep → PathStep → Bool
same_step (Index i) (Index j) = i == j
same_step (Member i) (Member j) = i == j
same_step a b = false

abbrev pub same_path : List PathStep → List PathStep → Bool
same_path [] [] = true
same_path (a ∷ p) (b ∷ q) = same_step a b && same_path p q
same_path p q = false

-- one value: the same place and mark, the same function, or both null
abbrev pub same_pointer : Cell → Cell → Bool
same_pointer Null Null = true
same_pointer (Function a) (Function b) = same_object a b
same_pointer (Pointer a p x) (Pointer b q y) = (a == b) && (same_path p q && same_bool x y)
same_pointer a b = false

abbrev pub in_order : Op → ℕ → ℕ → Result ℤ Reason
in_order Minus i j = Ok (pos i -ℤ pos j)
in_order Less i j = Ok (truth (nat_lt i j))
in_order Greater i j = Ok (truth (nat_lt j i))
in_order LessEqual i j = Ok (truth (nat_le i j))
in_order GreaterEqual i j = Ok (truth (nat_le j i))
in_order op i j = Err Mismatch

abbrev pub between : Op → Option ℕ → Option ℕ → Result ℤ Reason
between op (Some i) (Some j) = in_order op i j
between op i j = Err OutOfRange

-- order and difference want two elements of one array
abbrev pub ordered : Op → Cell → Cell → Result ℤ Reason
ordered op (Pointer a p x) (Pointer b q y) =
    if (a == b) && same_path (front p) (front q) then between op (last_index p) (last_index q) else Err OutOfRange
ordered op a b = Err OutOfRange

-- an operator over two pointers
unfoldable pub compared : Op → Cell → Cell → Result ℤ Reason
compared Equal a b = Ok (truth (same_pointer a b))
compared NotEqual a b = Ok (truth (if same_pointer a b then false else true))
compared op a b = ordered op a b

-- the number by which `p += v` and `p -= v` move a pointer
abbrev pub signed_by : Bool → ℤ → ℤ
signed_by true k = pos 0 -ℤ k
signed_by false k = k
