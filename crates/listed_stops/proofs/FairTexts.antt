-- The library's rows stop for no bad call, but those that end an object, call back, or keep a function.
use Rattle.std.proofs.Common.{◌≡◌, refl, ℕ, zero, suc, ◌+◌, ◌*◌, ◌-◌, ◌/◌, ◌%◌, ◌==◌, ◌||◌, ◌^◌, ℤ, pos, Bool, true, false, List, [], ◌∷◌, Option, Some, None, Result, Ok, Err, length, take, slice_get}
use Rattle.c_types.specs.declared.key.ObjectKey.{ObjectKey}
use Rattle.c_types.specs.declared.term.PathStep.{PathStep}
use Rattle.c_types.specs.declared.term.TypeId.{TypeId}
use Rattle.c_types.specs.Trees.{Ctype, PointerTo, VoidType}
use Rattle.c_types.specs.Table.{Table, type_of}
use Rattle.ref_cells.specs.declared.cells.Reason.{Reason}
use Rattle.ref_cells.specs.declared.cells.Reason.TheVariants.{OutOfRange, Mismatch}
use Rattle.ref_cells.specs.declared.cells.Cell.{Cell}
use Rattle.ref_cells.specs.declared.cells.Cell.TheVariants.{Null, Pointer}
use Rattle.ref_cells.specs.declared.cells.Value.{Value}
use Rattle.ref_cells.specs.declared.instance.Instance.{Instance}
use Rattle.ref_cells.specs.Cells.{CellList}
use Rattle.ref_mem.specs.Reads.{one_cell}
use Rattle.ref_mem.specs.Writes.{write, typed_as, character_part}
use Rattle.ref_elements.specs.declared.runs.Run.{Run}
use Rattle.ref_elements.specs.declared.runs.Found.{Found}
use Rattle.ref_elements.specs.Arguments.{argument, count_of}
use Rattle.ref_elements.specs.Objects.{is_odd, with_new, object_from}
use Rattle.ref_elements.specs.Outcomes.{gives, stores_and_gives, null_value, number_value, start_value}
use Rattle.ref_elements.specs.Parts.{Parts, puts}
use Rattle.ref_elements.specs.Runs.{◌>>=◌, content_at, element_at, element_path, found_at, size_in, parts_of, within}
use Rattle.ref_elements.specs.Types.{same_type}
use Rattle.ref_copies.specs.Copies.{push_part, copied, target_at, target_run, target_for, alike, copy_to, copy_from, copy_row, is_all_bytes, set_cells, set_parts, set_run, is_whole, aimed_as, set_target, zeroed, set_whole, set_there, set_at, set_row}
use Rattle.ref_copies.specs.Turns.{moved_in, moved, search_row, store_end, is_null, strtol_row}
use Rattle.ref_texts.specs.Reading.{place_at, char_at, push_char, next_of, next_at, text_on, text_from, text_at, part_at, both, decided_at, compare_on, compared, compared_at, compared_part}
use Rattle.ref_texts.specs.Texts.{duplicated, block_of, blocks_in}
use Rattle.ref_texts.specs.Writing.{push_text, text_parts, with_text, writes, closed, filled_up, text_cells, text_of}
use Rattle.ref_lib.specs.declared.rows.Making.TheVariants.{Malloc, Calloc, Realloc, Free, Perhaps, Object, Place, Classes}
use Rattle.ref_lib.specs.declared.rows.Elements.TheVariants.{CopyBytes, SetBytes, Search, Strtol, Sort, Find}
use Rattle.ref_lib.specs.declared.rows.Texts.{Texts}
use Rattle.ref_lib.specs.declared.rows.Texts.TheVariants.{Length, Compare, ComparePart, CopyText, AddText, CopyPart, Duplicate, Print, PrintPart, Line, Block}
use Rattle.ref_lib.specs.declared.rows.Plain.TheVariants.{AnyNumber, Byte, InClass, ToUpper, ToLower, Keep, Exit, Abort}
use Rattle.ref_lib.specs.declared.rows.Row.{Row}
use Rattle.ref_lib.specs.declared.rows.Row.TheVariants.{Makes, Moves, Writes, Answers}
use Rattle.ref_lib.specs.ref_alloc.Allocation.{allocated, ctype_set, ctype_in, object_row}
use Rattle.ref_lib.specs.Effects.{rows, spells, row_effect, effect}
use Rattle.listed_stops.proofs.Fair.{Fair, then_fair, either_fair, write_fair, character_fair, part_fair, found_as_fair, live_fair, found_fair, parts_fair, within_fair, element_object_fair, place_object_fair}

-- ---- texts
char_fair : (table : Table) (memory : List Instance) (place : Cell) (k : ℕ) → Fair (char_at table memory place k)
char_fair table memory place k = character_fair table memory (place_at place k)

push_char_fair : (c : ℤ) (r : Result (List ℤ) Reason) → Fair r → Fair (push_char c r)
push_char_fair c (Err e) h = h
push_char_fair c (Ok text) h = tt

next_of_fair : (r : Result ℤ Reason) → Fair r → Fair (next_of r)
next_of_fair (Err e) h = h
next_of_fair (Ok c) h = tt

next_fair : (table : Table) (memory : List Instance) (place : Cell) (k : ℕ) → Fair (next_at table memory place k)
next_fair table memory place k = next_of_fair (char_at table memory place k) (char_fair table memory place k)

text_on_fair : (r : Result (Option ℤ) Reason) (rest : Result (List ℤ) Reason) → Fair r → Fair rest → Fair (text_on r rest)
text_on_fair (Err e) rest h g = h
text_on_fair (Ok None) rest h g = tt
text_on_fair (Ok (Some c)) rest h g = push_char_fair c rest g

text_from_fair : (at : ℕ → Result (Option ℤ) Reason) (end : Result (List ℤ) Reason) → ((k : ℕ) → Fair (at k)) → Fair end → (n k : ℕ) → Fair (text_from at end n k)
unfolding text_from
text_from_fair at end h g zero k = g
text_from_fair at end h g (suc n) k = text_on_fair (at k) (text_from at end n (k + 1)) (h k) (text_from_fair at end h g n (k + 1))

text_fair : (table : Table) (memory : List Instance) (place : Cell) → Fair (text_at table memory place)
text_fair table memory place = text_from_fair (next_at table memory place) (Err OutOfRange) (next_fair table memory place) tt (2 ^ 64) 0

part_at_fair : (table : Table) (memory : List Instance) (place : Cell) (n : ℕ) → Fair (part_at table memory place n)
part_at_fair table memory place n = text_from_fair (next_at table memory place) (Ok []) (next_fair table memory place) tt n 0

both_fair : (x y : Result ℤ Reason) → Fair x → Fair y → Fair (both x y)
both_fair (Err e) y h g = h
both_fair (Ok x) (Err e) h g = g
both_fair (Ok x) (Ok y) h g = tt

decided_fair : (table : Table) (memory : List Instance) (a1 a2 : Cell) (k : ℕ) → Fair (decided_at table memory a1 a2 k)
decided_fair table memory a1 a2 k = both_fair (char_at table memory a1 k) (char_at table memory a2 k) (char_fair table memory a1 k) (char_fair table memory a2 k)

compare_on_fair : (r : Result (Option ℤ) Reason) (rest : Result ℤ Reason) → Fair r → Fair rest → Fair (compare_on r rest)
compare_on_fair (Err e) rest h g = h
compare_on_fair (Ok None) rest h g = g
compare_on_fair (Ok (Some n)) rest h g = tt

compared_fair : (at : ℕ → Result (Option ℤ) Reason) (end : Result ℤ Reason) → ((k : ℕ) → Fair (at k)) → Fair end → (n k : ℕ) → Fair (compared at end n k)
unfolding compared
compared_fair at end h g zero k = g
compared_fair at end h g (suc n) k = compare_on_fair (at k) (compared at end n (k + 1)) (h k) (compared_fair at end h g n (k + 1))

compared_at_fair : (table : Table) (memory : List Instance) (a1 a2 : Cell) → Fair (compared_at table memory a1 a2)
compared_at_fair table memory a1 a2 = compared_fair (decided_at table memory a1 a2) (Err OutOfRange) (decided_fair table memory a1 a2) tt (2 ^ 64) 0

compared_part_fair : (table : Table) (memory : List Instance) (a1 a2 : Cell) (n : ℕ) → Fair (compared_part table memory a1 a2 n)
compared_part_fair table memory a1 a2 n = compared_fair (decided_at table memory a1 a2) (Ok (pos 0)) (decided_fair table memory a1 a2) tt n 0

push_text_fair : (part : Result (List PathStep × CellList) Reason) (rest : Result Parts Reason) → Fair part → Fair rest → Fair (push_text part rest)
push_text_fair (Err e) rest h g = h
push_text_fair (Ok part) (Err e) h g = g
push_text_fair (Ok part) (Ok parts) h g = tt

text_parts_fair : (table : Table) (memory : List Instance) (place : Cell) (k : ℕ) (text : List ℤ) → Fair (text_parts table memory place k text)
text_parts_fair table memory place k [] = tt
text_parts_fair table memory place k (c ∷ text) =
    push_text_fair (character_part table memory (place_at place k) c) (text_parts table memory place (k + 1) text) (part_fair table memory (place_at place k) c) (text_parts_fair table memory place (k + 1) text)

writes_fair : (table : Table) (memory : List Instance) (place : Cell) (k : ℕ) (text : List ℤ) (value : Value) → Fair (writes table memory place k text value)
writes_fair table memory place k text value =
    then_fair (text_parts table memory place k text) (λ parts. gives (with_text table memory place parts) value) (text_parts_fair table memory place k text) (λ parts. tt)

duplicated_fair : (table : Table) (memory : List Instance) (key : ObjectKey) (fixed : Option TypeId) (a1 : Cell) → Fair (duplicated table memory key fixed a1)
duplicated_fair table memory key fixed a1 =
    then_fair (text_at table memory a1) (λ text. gives (with_new memory key fixed (length text + 1) false (text_cells 0 (closed text))) (start_value (length memory))) (text_fair table memory a1) (λ text. tt)

spells_fair : (table : Table) (memory : List Instance) (row : Texts) (key : ObjectKey) (fixed : Option TypeId) (result : Ctype) (args : List Value) (word : ℕ) → Fair (spells table memory row key fixed result args word)
spells_fair table memory Length key fixed result args word =
    then_fair (text_at table memory (argument args 0)) (λ text. gives memory (number_value result (pos (length text)))) (text_fair table memory (argument args 0)) (λ text. tt)
spells_fair table memory Compare key fixed result args word =
    then_fair (compared_at table memory (argument args 0) (argument args 1)) (λ n. gives memory (number_value result n)) (compared_at_fair table memory (argument args 0) (argument args 1)) (λ n. tt)
spells_fair table memory ComparePart key fixed result args word =
    then_fair (compared_part table memory (argument args 0) (argument args 1) (count_of (argument args 2))) (λ n. gives memory (number_value result n))
    (compared_part_fair table memory (argument args 0) (argument args 1) (count_of (argument args 2))) (λ n. tt)
spells_fair table memory CopyText key fixed result args word =
    then_fair (text_at table memory (argument args 1)) (λ text. writes table memory (argument args 0) 0 (closed text) (one_cell (argument args 0))) (text_fair table memory (argument args 1))
    (λ text. writes_fair table memory (argument args 0) 0 (closed text) (one_cell (argument args 0)))
spells_fair table memory AddText key fixed result args word =
    then_fair (text_at table memory (argument args 0)) (λ front. text_at table memory (argument args 1) >>= λ text. writes table memory (argument args 0) (length front) (closed text) (one_cell (argument args 0)))
    (text_fair table memory (argument args 0))
    (λ front.
    then_fair (text_at table memory (argument args 1)) (λ text. writes table memory (argument args 0) (length front) (closed text) (one_cell (argument args 0))) (text_fair table memory (argument args 1))
    (λ text. writes_fair table memory (argument args 0) (length front) (closed text) (one_cell (argument args 0))))
spells_fair table memory CopyPart key fixed result args word =
    then_fair (part_at table memory (argument args 1) (count_of (argument args 2)))
    (λ text. writes table memory (argument args 0) 0 (filled_up (count_of (argument args 2)) text) (one_cell (argument args 0)))
    (part_at_fair table memory (argument args 1) (count_of (argument args 2)))
    (λ text. writes_fair table memory (argument args 0) 0 (filled_up (count_of (argument args 2)) text) (one_cell (argument args 0)))
spells_fair table memory Duplicate key fixed result args word =
    either_fair (is_odd word) (gives memory null_value) (duplicated table memory key fixed (argument args 0)) tt (duplicated_fair table memory key fixed (argument args 0))
spells_fair table memory Print key fixed result args word = writes_fair table memory (argument args 0) 0 (closed (text_of word)) (number_value result (pos word))
spells_fair table memory PrintPart key fixed result args word =
    either_fair (count_of (argument args 1) == 0) (gives memory (number_value result (pos word)))
    (writes table memory (argument args 0) 0 (closed (take (count_of (argument args 1) - 1) (text_of word))) (number_value result (pos word))) tt
    (writes_fair table memory (argument args 0) 0 (closed (take (count_of (argument args 1) - 1) (text_of word))) (number_value result (pos word)))
spells_fair table memory Line key fixed result args word =
    either_fair (word == 0) (gives memory null_value)
    (writes table memory (argument args 0) 0 (closed (take (count_of (argument args 1) - 1) (text_of word))) (one_cell (argument args 0))) tt
    (writes_fair table memory (argument args 0) 0 (closed (take (count_of (argument args 1) - 1) (text_of word))) (one_cell (argument args 0)))
spells_fair table memory Block key fixed result args word =
    writes_fair table memory (argument args 0) 0 (block_of word (count_of (argument args 1)) (count_of (argument args 2)))
    (number_value result (pos (blocks_in (count_of (argument args 1)) (block_of word (count_of (argument args 1)) (count_of (argument args 2))))))

-- ---- elements that are copied, set and searched
push_part_fair : (path : List PathStep) (o : Option CellList) (rest : Result Parts Reason) → Fair rest → Fair (push_part path o rest)
push_part_fair path None rest h = tt
push_part_fair path (Some cells) (Err e) h = h
push_part_fair path (Some cells) (Ok parts) h = tt

copied_fair : (table : Table) (memory : List Instance) (source : Found) (target : Run) (k n : ℕ) → Fair (copied table memory source target k n)
copied_fair table memory source target k zero = tt
copied_fair table memory source target k (suc n) =
    push_part_fair (element_path target k) (content_at table memory source k) (copied table memory source target (k + 1) n) (copied_fair table memory source target (k + 1) n)

target_fair : (memory : List Instance) (place : Cell) → Fair (target_at memory place)
target_fair memory Null = tt
target_fair memory (Pointer i path past) = live_fair (slice_get memory i)
target_fair memory cell = tt

target_run_fair : (table : Table) (cell : Cell) (inst : Instance) → Fair (target_run table cell inst)
target_run_fair table (Pointer i path past) inst = found_as_fair table i inst path past inst.ty
target_run_fair table cell inst = tt

target_for_fair : (table : Table) (memory : List Instance) (place : Cell) (id : TypeId) → Fair (target_for table memory place id)
target_for_fair table memory place id =
    then_fair (target_at memory place) (λ (inst : Instance). target_run table place (typed_as id inst)) (target_fair memory place) (λ inst. target_run_fair table place (typed_as id inst))

alike_fair : (table : Table) (id : TypeId) (found : Found) → Fair (alike table id found)
alike_fair table id found = either_fair (same_type (type_of table found.run.of.0) (type_of table id.0)) (Ok found) (Err Mismatch) tt tt

copy_to_fair : (table : Table) (memory : List Instance) (a1 : Cell) (bytes : ℕ) (source target : Found) → Fair (copy_to table memory a1 bytes source target)
copy_to_fair table memory a1 bytes source target =
    then_fair (parts_of bytes (size_in table source.run.of))
    (λ (n : ℕ). within n source.run.room >>= λ (n : ℕ). within n target.run.room >>= λ (n : ℕ). copied table memory source target.run 0 n >>= λ (parts : Parts). puts table memory target.number source.run.of parts a1)
    (parts_fair bytes (size_in table source.run.of))
    (λ n.
    then_fair (within n source.run.room)
    (λ (n : ℕ). within n target.run.room >>= λ (n : ℕ). copied table memory source target.run 0 n >>= λ (parts : Parts). puts table memory target.number source.run.of parts a1)
    (within_fair n source.run.room)
    (λ n.
    then_fair (within n target.run.room) (λ (n : ℕ). copied table memory source target.run 0 n >>= λ (parts : Parts). puts table memory target.number source.run.of parts a1) (within_fair n target.run.room)
    (λ n.
    then_fair (copied table memory source target.run 0 n) (λ (parts : Parts). puts table memory target.number source.run.of parts a1) (copied_fair table memory source target.run 0 n) (λ parts. tt))))

copy_from_fair : (table : Table) (memory : List Instance) (a1 : Cell) (bytes : ℕ) (source : Found) → Fair (copy_from table memory a1 bytes source)
copy_from_fair table memory a1 bytes source =
    then_fair (target_for table memory a1 source.run.of >>= alike table source.run.of) (copy_to table memory a1 bytes source)
    (then_fair (target_for table memory a1 source.run.of) (alike table source.run.of) (target_for_fair table memory a1 source.run.of) (alike_fair table source.run.of))
    (copy_to_fair table memory a1 bytes source)

copy_fair : (table : Table) (memory : List Instance) (a1 a2 a3 : Cell) → Fair (copy_row table memory a1 a2 a3)
copy_fair table memory a1 a2 a3 =
    either_fair (count_of a3 == 0) (gives memory (one_cell a1)) (found_at table memory a2 >>= copy_from table memory a1 (count_of a3)) tt
    (then_fair (found_at table memory a2) (copy_from table memory a1 (count_of a3)) (found_fair table memory a2) (copy_from_fair table memory a1 (count_of a3)))

set_run_fair : (table : Table) (memory : List Instance) (a1 : Cell) (byte bytes : ℕ) (found : Found) → Fair (set_run table memory a1 byte bytes found)
set_run_fair table memory a1 byte bytes found =
    either_fair (byte == 0 || is_all_bytes table (type_of table found.run.of.0))
    (parts_of bytes (size_in table found.run.of) >>= λ (n : ℕ). within n found.run.room
    >>= λ (n : ℕ). puts table memory found.number found.run.of (set_parts found.run (set_cells table (type_of table found.run.of.0) byte) 0 n) a1)
    (Err Mismatch)
    (then_fair (parts_of bytes (size_in table found.run.of))
    (λ (n : ℕ). within n found.run.room >>= λ (n : ℕ). puts table memory found.number found.run.of (set_parts found.run (set_cells table (type_of table found.run.of.0) byte) 0 n) a1)
    (parts_fair bytes (size_in table found.run.of))
    (λ n.
    then_fair (within n found.run.room) (λ (n : ℕ). puts table memory found.number found.run.of (set_parts found.run (set_cells table (type_of table found.run.of.0) byte) 0 n) a1) (within_fair n found.run.room) (λ n. tt)))
    tt

aimed_fair : (table : Table) (a1 : Cell) (byte bytes : ℕ) (inst : Instance) (o : Option TypeId) → Fair (aimed_as table a1 byte bytes inst o)
aimed_fair table a1 byte bytes inst None = either_fair (is_whole a1 byte bytes inst.bytes) (Ok None) (Err Mismatch) tt tt
aimed_fair table a1 byte bytes inst (Some id) = then_fair (target_run table a1 inst) (λ (found : Found). Ok (Some found)) (target_run_fair table a1 inst) (λ found. tt)

set_target_fair : (table : Table) (memory : List Instance) (a1 : Cell) (byte bytes : ℕ) → Fair (set_target table memory a1 byte bytes)
set_target_fair table memory a1 byte bytes =
    then_fair (target_at memory a1) (λ (inst : Instance). aimed_as table a1 byte bytes inst inst.ty) (target_fair memory a1) (λ inst. aimed_fair table a1 byte bytes inst inst.ty)

zeroed_fair : (memory : List Instance) (a1 : Cell) (i : ℕ) (o : Option Instance) → Fair (zeroed memory a1 i o)
zeroed_fair memory a1 i None = tt
zeroed_fair memory a1 i (Some inst) = tt

set_whole_fair : (memory : List Instance) (a1 : Cell) → Fair (set_whole memory a1)
set_whole_fair memory (Pointer i path past) = zeroed_fair memory (Pointer i path past) i (slice_get memory i)
set_whole_fair memory cell = tt

set_there_fair : (table : Table) (memory : List Instance) (a1 : Cell) (byte bytes : ℕ) (o : Option Found) → Fair (set_there table memory a1 byte bytes o)
set_there_fair table memory a1 byte bytes None = set_whole_fair memory a1
set_there_fair table memory a1 byte bytes (Some found) = set_run_fair table memory a1 byte bytes found

set_at_fair : (table : Table) (memory : List Instance) (a1 : Cell) (byte bytes : ℕ) → Fair (set_at table memory a1 byte bytes)
set_at_fair table memory a1 byte bytes =
    then_fair (set_target table memory a1 byte bytes) (set_there table memory a1 byte bytes) (set_target_fair table memory a1 byte bytes) (set_there_fair table memory a1 byte bytes)

set_fair : (table : Table) (memory : List Instance) (a1 a2 a3 : Cell) → Fair (set_row table memory a1 a2 a3)
set_fair table memory a1 a2 a3 =
    either_fair (count_of a3 == 0) (gives memory (one_cell a1)) (set_at table memory a1 (count_of a2 % 256) (count_of a3)) tt (set_at_fair table memory a1 (count_of a2 % 256) (count_of a3))

moved_in_fair : (word : ℕ) (found : Found) → Fair (moved_in word found)
moved_in_fair word found = either_fair (found.run.room == 0) (Err OutOfRange) (Ok (element_at found ((word / 2) % found.run.room))) tt tt

moved_fair : (table : Table) (memory : List Instance) (word : ℕ) (cell : Cell) → Fair (moved table memory word cell)
moved_fair table memory word cell = then_fair (found_at table memory cell) (moved_in word) (found_fair table memory cell) (moved_in_fair word)

search_fair : (table : Table) (memory : List Instance) (word : ℕ) (a1 : Cell) → Fair (search_row table memory word a1)
search_fair table memory word a1 =
    either_fair (is_odd word) (gives memory null_value) (moved table memory word a1 >>= λ (cell : Cell). gives memory (one_cell cell)) tt
    (then_fair (moved table memory word a1) (λ (cell : Cell). gives memory (one_cell cell)) (moved_fair table memory word a1) (λ cell. tt))

store_end_fair : (table : Table) (memory : List Instance) (result : Ctype) (word : ℕ) (a2 cell : Cell) → Fair (store_end table memory result word a2 cell)
store_end_fair table memory result word a2 cell =
    then_fair (write table memory a2 (PointerTo VoidType) (one_cell cell)) (λ after. stores_and_gives after (number_value result (pos word)) ((a2, cell) ∷ []))
    (write_fair table memory a2 (PointerTo VoidType) (one_cell cell)) (λ after. tt)

strtol_fair : (table : Table) (memory : List Instance) (result : Ctype) (word : ℕ) (a1 a2 : Cell) → Fair (strtol_row table memory result word a1 a2)
strtol_fair table memory result word a1 a2 =
    either_fair (is_null a2) (gives memory (number_value result (pos word))) (moved table memory word a1 >>= store_end table memory result word a2) tt
    (then_fair (moved table memory word a1) (store_end table memory result word a2) (moved_fair table memory word a1) (store_end_fair table memory result word a2))

-- ---- objects that are made
ctype_set_fair : (table : Table) (memory : List Instance) (n i place : ℕ) (o : Option Instance) → Fair (ctype_set table memory n i place o)
ctype_set_fair table memory n i place None = tt
ctype_set_fair table memory n i place (Some inst) = tt

ctype_fair : (table : Table) (memory : List Instance) (n : ℕ) (a b : Option ℕ) → Fair (ctype_in table memory n a b)
ctype_fair table memory n (Some i) (Some place) = ctype_set_fair table memory n i place (slice_get memory i)
ctype_fair table memory n a b = tt

object_fair : (position : ℕ) (memory : List Instance) → Fair (object_row position memory)
object_fair position memory = element_object_fair memory (object_from position 0 memory)

-- ---- rows
-- the rows that end an object, call back or keep a function
abbrev pub is_ender : Row → Bool
is_ender (Makes Realloc) = true
is_ender (Makes Free) = true
is_ender (Moves Sort) = true
is_ender (Moves Find) = true
is_ender (Answers Keep) = true
is_ender row = false

true_false : true ≡ false → ⊥
true_false e = cc

row_fair : (table : Table) (memory : List Instance) (row : Row) (key : ObjectKey) (fixed : Option TypeId) (result : Ctype) (args : List Value) (word : ℕ) → is_ender row ≡ false
    → Fair (row_effect table memory (Some row) key fixed result args word)
row_fair table memory (Makes Malloc) key fixed result args word h = either_fair (is_odd word) (gives memory null_value) (allocated memory key (count_of (argument args 0)) false) tt tt
row_fair table memory (Makes Calloc) key fixed result args word h =
    either_fair (is_odd word) (gives memory null_value) (allocated memory key ((count_of (argument args 0) * count_of (argument args 1)) % 2 ^ 64) true) tt tt
row_fair table memory (Makes Realloc) key fixed result args word h = absurd (true_false h)
row_fair table memory (Makes Free) key fixed result args word h = absurd (true_false h)
row_fair table memory (Makes (Perhaps position)) key fixed result args word h = either_fair (is_odd word) (gives memory null_value) (object_row position memory) tt (object_fair position memory)
row_fair table memory (Makes (Object position)) key fixed result args word h = object_fair position memory
row_fair table memory (Makes (Place position)) key fixed result args word h = place_object_fair memory (object_from position 0 memory)
row_fair table memory (Makes Classes) key fixed result args word h = ctype_fair table memory (word % 65536) (object_from 8 0 memory) (object_from 7 0 memory)
row_fair table memory (Moves CopyBytes) key fixed result args word h = copy_fair table memory (argument args 0) (argument args 1) (argument args 2)
row_fair table memory (Moves SetBytes) key fixed result args word h = set_fair table memory (argument args 0) (argument args 1) (argument args 2)
row_fair table memory (Moves Search) key fixed result args word h = search_fair table memory word (argument args 0)
row_fair table memory (Moves Strtol) key fixed result args word h = strtol_fair table memory result word (argument args 0) (argument args 1)
row_fair table memory (Moves Sort) key fixed result args word h = absurd (true_false h)
row_fair table memory (Moves Find) key fixed result args word h = absurd (true_false h)
row_fair table memory (Writes row) key fixed result args word h = spells_fair table memory row key fixed result args word
row_fair table memory (Answers AnyNumber) key fixed result args word h = tt
row_fair table memory (Answers Byte) key fixed result args word h = tt
row_fair table memory (Answers (InClass class)) key fixed result args word h = tt
row_fair table memory (Answers ToUpper) key fixed result args word h = tt
row_fair table memory (Answers ToLower) key fixed result args word h = tt
row_fair table memory (Answers Keep) key fixed result args word h = absurd (true_false h)
row_fair table memory (Answers Exit) key fixed result args word h = tt
row_fair table memory (Answers Abort) key fixed result args word h = tt

pub effect_fair : (table : Table) (memory : List Instance) (function : ℕ) (key : ObjectKey) (fixed : Option TypeId) (result : TypeId) (args : List Value) (word : ℕ)
    → ((row : Row) → slice_get rows function ≡ Some row → is_ender row ≡ false)
    → Fair (effect table memory function key fixed result args word)
unfolding effect
effect_fair table memory function key fixed result args word none = by (slice_get rows function) (λ row is. none row is)
  where
    by : (o : Option Row) → ((row : Row) → o ≡ Some row → is_ender row ≡ false) → Fair (row_effect table memory o key fixed (type_of table result.0) args word)
    by None h = tt
    by (Some row) h = row_fair table memory row key fixed (type_of table result.0) args word (h row refl)
