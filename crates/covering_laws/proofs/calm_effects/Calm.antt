-- Effects that call back or keep a function leave the memory as it was.
use Rattle.std.proofs.Common.{ℕ, ◌%◌, ◌-◌, ◌==◌, ◌||◌, ℤ, pos, Bool, true, false, cond, List, Option, Some, None, Result, Ok, Err, length, take, slice_get, refl}
use Rattle.c_types.specs.declared.key.ObjectKey.{ObjectKey}
use Rattle.c_types.specs.declared.term.TypeId.{TypeId}
use Rattle.c_types.specs.Trees.{Ctype, PointerTo, VoidType}
use Rattle.c_types.specs.Table.{Table, type_of}
use Rattle.ref_cells.specs.declared.cells.Reason.{Reason}
use Rattle.ref_cells.specs.declared.cells.Reason.TheVariants.{Mismatch}
use Rattle.ref_cells.specs.declared.cells.Cell.{Cell}
use Rattle.ref_cells.specs.declared.cells.Cell.TheVariants.{Null, Function, Pointer}
use Rattle.ref_cells.specs.declared.cells.Value.{Value}
use Rattle.ref_cells.specs.declared.instance.Instance.{Instance}
use Rattle.ref_mem.specs.Reads.{one_cell}
use Rattle.ref_elements.specs.declared.runs.Found.{Found}
use Rattle.ref_elements.specs.Arguments.{argument, count_of}
use Rattle.ref_elements.specs.Objects.{is_odd, object_from, element_of_object, place_of_object}
use Rattle.ref_elements.specs.Outcomes.{Effect, number_value}
use Rattle.ref_elements.specs.Runs.{◌>>=◌, found_at, size_in, within, parts_of, element_at}
use Rattle.ref_mem.specs.Writes.{write}
use Rattle.ref_copies.specs.Copies.{copy_row, copy_to, copy_from, copied, target_for, alike, set_row, set_run, set_there, set_whole, set_target, zeroed, is_all_bytes}
use Rattle.ref_copies.specs.Turns.{search_row, strtol_row, sort_row, find_row, store_end, moved, is_null, compares, sort_turn, find_turn, swapped, swaps, array_at, first_of, second_of}
use Rattle.ref_texts.specs.Texts.{duplicated, block_of, blocks_in}
use Rattle.ref_texts.specs.Reading.{text_at, part_at, compared_at, compared_part}
use Rattle.ref_texts.specs.Writing.{text_parts, writes, closed, filled_up, text_of}
use Rattle.ref_lib.specs.declared.rows.Making.{Making}
use Rattle.ref_lib.specs.declared.rows.Making.TheVariants.{Malloc, Calloc, Realloc, Free, Perhaps, Object, Place, Classes}
use Rattle.ref_lib.specs.declared.rows.Elements.{Elements}
use Rattle.ref_lib.specs.declared.rows.Elements.TheVariants.{CopyBytes, SetBytes, Search, Strtol, Sort, Find}
use Rattle.ref_lib.specs.declared.rows.Texts.{Texts}
use Rattle.ref_lib.specs.declared.rows.Texts.TheVariants.{Length, Compare, ComparePart, CopyText, AddText, CopyPart, Duplicate, Print, PrintPart, Line, Block}
use Rattle.ref_lib.specs.declared.rows.Plain.{Plain}
use Rattle.ref_lib.specs.declared.rows.Plain.TheVariants.{AnyNumber, Byte, InClass, ToUpper, ToLower, Keep, Exit, Abort}
use Rattle.ref_lib.specs.declared.rows.Row.{Row}
use Rattle.ref_lib.specs.declared.rows.Row.TheVariants.{Makes, Moves, Writes, Answers}
use Rattle.ref_lib.specs.ref_alloc.Allocation.{regrown, regrown_at, realloc_of, heap_at, freed, free_row, takes, ctype_set, ctype_in}
use Rattle.ref_lib.specs.ref_alloc.Plain.{keep_row}
use Rattle.ref_lib.specs.Effects.{rows, makes, moves, spells, answers, row_effect, effect}
use Rattle.covering_laws.specs.calm_effects.Calm.{LeavesCalm, EffectCalm}

after : {A : Type 0} (memory : List Instance) (r : Result A Reason) (f : A → Effect) → ((x : A) → LeavesCalm memory (f x)) → LeavesCalm memory (r >>= f)
after memory (Ok x) f g = g x
after memory (Err e) f g = tt

either : (memory : List Instance) (b : Bool) (x y : Effect) → LeavesCalm memory x → LeavesCalm memory y → LeavesCalm memory (cond b x y)
either memory true x y h g = h
either memory false x y h g = g

module _ (table : Table) (memory : List Instance) where
  -- the rows that make objects, end them or name one of the library's

  freed_calm : (o : Option ℕ) → LeavesCalm memory (freed memory o)
  freed_calm None = tt
  freed_calm (Some i) = tt

  free_calm : (a1 : Cell) → LeavesCalm memory (free_row memory a1)
  free_calm Null = tt
  free_calm a1 = freed_calm (heap_at memory a1)

  regrown_calm : (key : ObjectKey) (fixed : Option TypeId) (bytes i : ℕ) (o : Option Instance) → LeavesCalm memory (regrown table memory key fixed bytes i o)
  regrown_calm key fixed bytes i None = tt
  regrown_calm key fixed bytes i (Some old) = either memory (takes table fixed old.ty) _ _ tt tt

  regrown_at_calm : (key : ObjectKey) (fixed : Option TypeId) (bytes : ℕ) (o : Option ℕ) → LeavesCalm memory (regrown_at table memory key fixed bytes o)
  regrown_at_calm key fixed bytes None = tt
  regrown_at_calm key fixed bytes (Some i) = regrown_calm key fixed bytes i (slice_get memory i)

  realloc_calm : (key : ObjectKey) (fixed : Option TypeId) (bytes : ℕ) (a1 : Cell) → LeavesCalm memory (realloc_of table memory key fixed bytes a1)
  realloc_calm key fixed bytes Null = tt
  realloc_calm key fixed bytes a1 = regrown_at_calm key fixed bytes (heap_at memory a1)

  element_calm : (o : Option ℕ) → LeavesCalm memory (element_of_object memory o)
  element_calm None = tt
  element_calm (Some i) = tt

  place_calm : (o : Option ℕ) → LeavesCalm memory (place_of_object memory o)
  place_calm None = tt
  place_calm (Some i) = tt

  set_calm : (n i place : ℕ) (o : Option Instance) → LeavesCalm memory (ctype_set table memory n i place o)
  set_calm n i place None = tt
  set_calm n i place (Some inst) = tt

  ctype_calm : (n : ℕ) (i place : Option ℕ) → LeavesCalm memory (ctype_in table memory n i place)
  ctype_calm n (Some i) (Some place) = set_calm n i place (slice_get memory i)
  ctype_calm n (Some i) None = tt
  ctype_calm n None place = tt

  makes_calm : (row : Making) (key : ObjectKey) (fixed : Option TypeId) (args : List Value) (word : ℕ) → LeavesCalm memory (makes table memory row key fixed args word)
  makes_calm Malloc key fixed args word = either memory (is_odd word) _ _ tt tt
  makes_calm Calloc key fixed args word = either memory (is_odd word) _ _ tt tt
  makes_calm Realloc key fixed args word =
      either memory (is_odd word) _ _ tt (realloc_calm key fixed (count_of (argument args 1)) (argument args 0))
  makes_calm Free key fixed args word = free_calm (argument args 0)
  makes_calm (Perhaps position) key fixed args word = either memory (is_odd word) _ _ tt (element_calm (object_from position 0 memory))
  makes_calm (Object position) key fixed args word = element_calm (object_from position 0 memory)
  makes_calm (Place position) key fixed args word = place_calm (object_from position 0 memory)
  makes_calm Classes key fixed args word = ctype_calm (word % 65536) (object_from 8 0 memory) (object_from 7 0 memory)

  -- the rows over whole elements

  to_calm : (a1 : Cell) (bytes : ℕ) (source target : Found) → LeavesCalm memory (copy_to table memory a1 bytes source target)
  to_calm a1 bytes source target =
      after memory (parts_of bytes (size_in table source.run.of)) _
      (λ n. after memory (within n source.run.room) _
      (λ m. after memory (within m target.run.room) _
      (λ k. after memory (copied table memory source target.run 0 k) _ (λ parts. tt))))

  copy_calm : (a1 a2 a3 : Cell) → LeavesCalm memory (copy_row table memory a1 a2 a3)
  copy_calm a1 a2 a3 =
      either memory (count_of a3 == 0) _ _ tt
      (after memory (found_at table memory a2) (copy_from table memory a1 (count_of a3))
      (λ source. after memory (target_for table memory a1 source.run.of >>= alike table source.run.of) (copy_to table memory a1 (count_of a3) source)
      (λ target. to_calm a1 (count_of a3) source target)))

  zeroed_calm : (a1 : Cell) (i : ℕ) (o : Option Instance) → LeavesCalm memory (zeroed memory a1 i o)
  zeroed_calm a1 i None = tt
  zeroed_calm a1 i (Some inst) = tt

  whole_calm : (a1 : Cell) → LeavesCalm memory (set_whole memory a1)
  whole_calm (Pointer i path past) = zeroed_calm (Pointer i path past) i (slice_get memory i)
  whole_calm a1 = tt

  run_calm : (a1 : Cell) (byte bytes : ℕ) (found : Found) → LeavesCalm memory (set_run table memory a1 byte bytes found)
  run_calm a1 byte bytes found =
      either memory (byte == 0 || is_all_bytes table (type_of table found.run.of.0)) _ (Err Mismatch)
      (after memory (parts_of bytes (size_in table found.run.of)) _ (λ n. after memory (within n found.run.room) _ (λ k. tt)))
      tt

  there_calm : (a1 : Cell) (byte bytes : ℕ) (o : Option Found) → LeavesCalm memory (set_there table memory a1 byte bytes o)
  there_calm a1 byte bytes None = whole_calm a1
  there_calm a1 byte bytes (Some found) = run_calm a1 byte bytes found

  memset_calm : (a1 a2 a3 : Cell) → LeavesCalm memory (set_row table memory a1 a2 a3)
  memset_calm a1 a2 a3 =
      either memory (count_of a3 == 0) _ _ tt
      (after memory (set_target table memory a1 (count_of a2 % 256) (count_of a3)) (set_there table memory a1 (count_of a2 % 256) (count_of a3))
      (λ o. there_calm a1 (count_of a2 % 256) (count_of a3) o))

  search_calm : (word : ℕ) (a1 : Cell) → LeavesCalm memory (search_row table memory word a1)
  search_calm word a1 = either memory (is_odd word) _ _ tt (after memory (moved table memory word a1) _ (λ cell. tt))

  end_calm : (result : Ctype) (word : ℕ) (a2 cell : Cell) → LeavesCalm memory (store_end table memory result word a2 cell)
  end_calm result word a2 cell = after memory (write table memory a2 (PointerTo VoidType) (one_cell cell)) _ (λ m. tt)

  strtol_calm : (result : Ctype) (word : ℕ) (a1 a2 : Cell) → LeavesCalm memory (strtol_row table memory result word a1 a2)
  strtol_calm result word a1 a2 =
      either memory (is_null a2) _ _ tt
      (after memory (moved table memory word a1) (store_end table memory result word a2) (λ cell. end_calm result word a2 cell))

  compares_calm : (compare a b : Cell) → LeavesCalm memory (compares memory compare a b)
  compares_calm Null a b = tt
  compares_calm (Function key) a b = refl
  compares_calm compare a b = tt

  sort_calm : (word : ℕ) (a1 a2 a3 a4 : Cell) → LeavesCalm memory (sort_row table memory word a1 a2 a3 a4)
  sort_calm word a1 a2 a3 a4 =
      after memory (array_at table memory a1 (count_of a2) (count_of a3)) (sort_turn table memory (count_of a2) word a4)
      (λ found. either memory (word == 0 || count_of a2 == 0) _ _ tt
      (either memory (is_odd word) _ _
      (compares_calm a4 (element_at found (first_of (count_of a2) word)) (element_at found (second_of (count_of a2) word)))
      (after memory (swapped table memory found (first_of (count_of a2) word) (second_of (count_of a2) word)) (swaps table memory found) (λ parts. tt))))

  find_calm : (word : ℕ) (a1 a2 a3 a4 a5 : Cell) → LeavesCalm memory (find_row table memory word a1 a2 a3 a4 a5)
  find_calm word a1 a2 a3 a4 a5 =
      after memory (array_at table memory a2 (count_of a3) (count_of a4)) (find_turn memory (count_of a3) word a1 a5)
      (λ found. either memory (word == 0 || count_of a3 == 0) _ _ tt
      (either memory (is_odd word) _ _ (compares_calm a5 a1 (element_at found (first_of (count_of a3) word))) tt))

  moves_calm : (row : Elements) (result : Ctype) (args : List Value) (word : ℕ) → LeavesCalm memory (moves table memory row result args word)
  moves_calm CopyBytes result args word = copy_calm (argument args 0) (argument args 1) (argument args 2)
  moves_calm SetBytes result args word = memset_calm (argument args 0) (argument args 1) (argument args 2)
  moves_calm Search result args word = search_calm word (argument args 0)
  moves_calm Strtol result args word = strtol_calm result word (argument args 0) (argument args 1)
  moves_calm Sort result args word = sort_calm word (argument args 0) (argument args 1) (argument args 2) (argument args 3)
  moves_calm Find result args word = find_calm word (argument args 0) (argument args 1) (argument args 2) (argument args 3) (argument args 4)

  -- the rows over characters

  writes_calm : (place : Cell) (k : ℕ) (text : List ℤ) (value : Value) → LeavesCalm memory (writes table memory place k text value)
  writes_calm place k text value = after memory (text_parts table memory place k text) _ (λ parts. tt)

  spells_calm : (row : Texts) (key : ObjectKey) (fixed : Option TypeId) (result : Ctype) (args : List Value) (word : ℕ)
      → LeavesCalm memory (spells table memory row key fixed result args word)
  spells_calm Length key fixed result args word = after memory (text_at table memory (argument args 0)) _ (λ text. tt)
  spells_calm Compare key fixed result args word = after memory (compared_at table memory (argument args 0) (argument args 1)) _ (λ n. tt)
  spells_calm ComparePart key fixed result args word =
      after memory (compared_part table memory (argument args 0) (argument args 1) (count_of (argument args 2))) _ (λ n. tt)
  spells_calm CopyText key fixed result args word =
      after memory (text_at table memory (argument args 1)) _ (λ text. writes_calm (argument args 0) 0 (closed text) (one_cell (argument args 0)))
  spells_calm AddText key fixed result args word =
      after memory (text_at table memory (argument args 0)) _
      (λ front. after memory (text_at table memory (argument args 1)) _
      (λ text. writes_calm (argument args 0) (length front) (closed text) (one_cell (argument args 0))))
  spells_calm CopyPart key fixed result args word =
      after memory (part_at table memory (argument args 1) (count_of (argument args 2))) _
      (λ text. writes_calm (argument args 0) 0 (filled_up (count_of (argument args 2)) text) (one_cell (argument args 0)))
  spells_calm Duplicate key fixed result args word =
      either memory (is_odd word) _ (duplicated table memory key fixed (argument args 0)) tt (after memory (text_at table memory (argument args 0)) _ (λ text. tt))
  spells_calm Print key fixed result args word = writes_calm (argument args 0) 0 (closed (text_of word)) (number_value result (pos word))
  spells_calm PrintPart key fixed result args word =
      either memory (count_of (argument args 1) == 0) _ _ tt
      (writes_calm (argument args 0) 0 (closed (take (count_of (argument args 1) - 1) (text_of word))) (number_value result (pos word)))
  spells_calm Line key fixed result args word =
      either memory (word == 0) _ _ tt
      (writes_calm (argument args 0) 0 (closed (take (count_of (argument args 1) - 1) (text_of word))) (one_cell (argument args 0)))
  spells_calm Block key fixed result args word =
      writes_calm (argument args 0) 0 (block_of word (count_of (argument args 1)) (count_of (argument args 2)))
      (number_value result (pos (blocks_in (count_of (argument args 1)) (block_of word (count_of (argument args 1)) (count_of (argument args 2))))))

  -- the rows that look at no object

  keep_calm : (result : Ctype) (a1 : Cell) → LeavesCalm memory (keep_row memory result a1)
  keep_calm result Null = tt
  keep_calm result (Function key) = refl
  keep_calm result a1 = tt

  answers_calm : (row : Plain) (result : Ctype) (args : List Value) (word : ℕ) → LeavesCalm memory (answers memory row result args word)
  answers_calm Keep result args word = keep_calm result (argument args 0)
  answers_calm AnyNumber result args word = tt
  answers_calm Byte result args word = tt
  answers_calm (InClass class) result args word = tt
  answers_calm ToUpper result args word = tt
  answers_calm ToLower result args word = tt
  answers_calm Exit result args word = tt
  answers_calm Abort result args word = tt

  row_calm : (o : Option Row) (key : ObjectKey) (fixed : Option TypeId) (result : Ctype) (args : List Value) (word : ℕ)
      → LeavesCalm memory (row_effect table memory o key fixed result args word)
  row_calm None key fixed result args word = tt
  row_calm (Some (Makes row)) key fixed result args word = makes_calm row key fixed args word
  row_calm (Some (Moves row)) key fixed result args word = moves_calm row result args word
  row_calm (Some (Writes row)) key fixed result args word = spells_calm row key fixed result args word
  row_calm (Some (Answers row)) key fixed result args word = answers_calm row result args word

pub effect_is_calm : EffectCalm
unfolding effect
effect_is_calm table memory function key fixed result arguments word =
    row_calm table memory (slice_get rows function) key fixed (type_of table result.0) arguments word
