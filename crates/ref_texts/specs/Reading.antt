-- Characters read one by one.
use Rattle.std.specs.Prelude.{ℕ, zero, suc, ◌+◌, ◌-◌, ◌^◌, ◌==◌, take, length, ℤ, pos, negsuc, int_lt, Bool, true}
use Rattle.std.specs.Prelude.{if◌then◌else◌, List, [], ◌∷◌, ◌++◌, Option, Some, None, Result, Ok, Err, slice_get}
use Rattle.std.specs.Ordering.{int_eq}
use Rattle.c_types.specs.declared.term.PathStep.{PathStep}
use Rattle.c_types.specs.declared.term.PathStep.TheVariants.{Index, Member}
use Rattle.c_types.specs.Table.{Table}
use Rattle.ref_cells.specs.declared.cells.Reason.{Reason}
use Rattle.ref_cells.specs.declared.cells.Reason.TheVariants.{OutOfRange}
use Rattle.ref_cells.specs.declared.cells.Cell.{Cell}
use Rattle.ref_cells.specs.declared.cells.Cell.TheVariants.{Pointer}
use Rattle.ref_cells.specs.declared.instance.Instance.{Instance}
use Rattle.ref_cells.specs.Numbers.{low_of}
use Rattle.ref_mem.specs.Reads.{read_character}

abbrev pub later_as : List PathStep → Option PathStep → ℕ → Option (List PathStep)
later_as front None k = None
later_as front (Some (Index j)) k = Some (front ++ Index (j + k) ∷ [])
later_as front (Some (Member m)) k = None

-- the path of the element so many further on, where the path ends in an index
abbrev pub later : List PathStep → ℕ → Option (List PathStep)
later path k = later_as (take (length path - 1) path) (slice_get path (length path - 1)) k

abbrev pub later_place : ℕ → List PathStep → Bool → ℕ → Option (List PathStep) → Cell
later_place i path past k None = Pointer i path (if k == 0 then past else true)
later_place i path past k (Some q) = Pointer i q past

-- the place so many characters on; what isn't an element has none behind it
abbrev pub place_at : Cell → ℕ → Cell
place_at (Pointer i path past) k = later_place i path past k (later path k)
place_at cell k = cell

-- the character so many on from a place
abbrev pub char_at : Table → List Instance → Cell → ℕ → Result ℤ Reason
char_at table memory place k = read_character table memory (place_at place k)

abbrev pub push_char : ℤ → Result (List ℤ) Reason → Result (List ℤ) Reason
push_char c (Err reason) = Err reason
push_char c (Ok text) = Ok (c ∷ text)

abbrev pub unless_zero : ℤ → Option ℤ
unless_zero c = if int_eq c (pos 0) then None else Some c

-- a character that is read, none where it is the zero
abbrev pub next_of : Result ℤ Reason → Result (Option ℤ) Reason
next_of (Err reason) = Err reason
next_of (Ok c) = Ok (unless_zero c)

abbrev pub next_at : Table → List Instance → Cell → ℕ → Result (Option ℤ) Reason
next_at table memory place k = next_of (char_at table memory place k)

-- a text that begins with what is read: at the zero it ends
abbrev pub text_on : Result (Option ℤ) Reason → Result (List ℤ) Reason → Result (List ℤ) Reason
text_on (Err reason) rest = Err reason
text_on (Ok None) rest = Ok []
text_on (Ok (Some c)) rest = push_char c rest

-- the characters before the zero, from the k-th on, of so many that may be read; what there is where none of these
-- is it
unfoldable pub text_from : (ℕ → Result (Option ℤ) Reason) → Result (List ℤ) Reason → ℕ → ℕ → Result (List ℤ) Reason
text_from at end zero k = end
text_from at end (suc more) k = text_on (at k) (text_from at end more (k + 1))

-- the text at a place; no array has 2^64 elements
abbrev pub text_at : Table → List Instance → Cell → Result (List ℤ) Reason
text_at table memory place = text_from (next_at table memory place) (Err OutOfRange) (2 ^ 64) 0

-- the same of so many characters at most
abbrev pub part_at : Table → List Instance → Cell → ℕ → Result (List ℤ) Reason
part_at table memory place n = text_from (next_at table memory place) (Ok []) n 0

-- -1 or 1, as unsigned characters
abbrev pub order_of : ℤ → ℤ → ℤ
order_of x y = if int_lt (low_of 128 x) (low_of 128 y) then negsuc 0 else pos 1

-- what two characters decide: nothing where they are the same and no zero
abbrev pub decided : ℤ → ℤ → Option ℤ
decided x y = if int_eq x y then (if int_eq x (pos 0) then Some (pos 0) else None) else Some (order_of x y)

abbrev pub both : Result ℤ Reason → Result ℤ Reason → Result (Option ℤ) Reason
both (Err reason) y = Err reason
both (Ok x) (Err reason) = Err reason
both (Ok x) (Ok y) = Ok (decided x y)

-- what the k-th characters of two places decide
abbrev pub decided_at : Table → List Instance → Cell → Cell → ℕ → Result (Option ℤ) Reason
decided_at table memory a1 a2 k = both (char_at table memory a1 k) (char_at table memory a2 k)

abbrev pub compare_on : Result (Option ℤ) Reason → Result ℤ Reason → Result ℤ Reason
compare_on (Err reason) rest = Err reason
compare_on (Ok None) rest = rest
compare_on (Ok (Some n)) rest = Ok n

-- two texts character by character from the k-th on, up to a difference, a zero or so many
unfoldable pub compared : (ℕ → Result (Option ℤ) Reason) → Result ℤ Reason → ℕ → ℕ → Result ℤ Reason
compared at end zero k = end
compared at end (suc more) k = compare_on (at k) (compared at end more (k + 1))

-- two whole texts
abbrev pub compared_at : Table → List Instance → Cell → Cell → Result ℤ Reason
compared_at table memory a1 a2 = compared (decided_at table memory a1 a2) (Err OutOfRange) (2 ^ 64) 0

-- so many characters of two texts at most
abbrev pub compared_part : Table → List Instance → Cell → Cell → ℕ → Result ℤ Reason
compared_part table memory a1 a2 n = compared (decided_at table memory a1 a2) (Ok (pos 0)) n 0
