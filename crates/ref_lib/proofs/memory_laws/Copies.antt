-- What the rows over whole elements leave.
use Rattle.std.proofs.Common.{◌≡◌, ℕ, ◌<◌, true, false, List, Option, Some, None, Result, Ok, Err, IfOk, IfSome, length, refl, ap}
use Rattle.std.specs.Prelude.{if◌then◌else◌, ◌==◌, ◌||◌, ◌%◌, pos}
use Rattle.std.specs.List.{slice_get}
use Rattle.c_types.specs.declared.term.PathStep.{PathStep}
use Rattle.c_types.specs.declared.term.TypeId.{TypeId}
use Rattle.c_types.specs.Trees.{Ctype, VoidType, PointerTo}
use Rattle.c_types.specs.Table.{Table, type_of}
use Rattle.c_types.specs.Made.{AreNamed, IsMade}
use Rattle.ref_cells.specs.declared.cells.Reason.{Reason}
use Rattle.ref_cells.specs.declared.cells.Reason.TheVariants.{Mismatch}
use Rattle.ref_cells.specs.declared.cells.Cell.{Cell}
use Rattle.ref_cells.specs.declared.cells.Cell.TheVariants.{Null, Pointer, Function}
use Rattle.ref_cells.specs.declared.cells.Value.{Value}
use Rattle.ref_cells.specs.declared.instance.Instance.{Instance}
use Rattle.ref_cells.specs.Cells.{CellList}
use Rattle.ref_cells.specs.Places.{IsKnown, AreKnown, reach}
use Rattle.ref_mem.specs.Reads.{one_cell}
use Rattle.ref_mem.specs.Writes.{type_or, typed_as, with_parts, with_value, written_in, write_found, write}
use Rattle.ref_elements.specs.declared.runs.Found.{Found}
use Rattle.ref_elements.specs.Arguments.{count_of}
use Rattle.ref_elements.specs.Outcomes.{gives, null_value, no_value, number_value}
use Rattle.ref_elements.specs.Objects.{is_odd}
use Rattle.ref_elements.specs.Parts.{Parts, with_all, puts}
use Rattle.ref_elements.specs.Runs.{◌>>=◌, found_at, size_in, parts_of, within, element_at}
use Rattle.ref_copies.specs.Copies.{copied, target_at, target_run, target_for, alike, copy_to, copy_from, copy_row, is_all_bytes, set_cells, set_parts, set_run, is_whole, aimed_as, set_target, zeroed, set_whole, set_there, set_at, set_row}
use Rattle.ref_copies.specs.Turns.{moved, search_row, store_end, is_null, strtol_row, checked_array, array_at, compares, first_of, second_of, swapped, swaps, sort_turn, sort_row, find_turn, find_row}
use Rattle.ref_lib.specs.memory_laws.Kept.{Follows}
use Rattle.ref_lib.proofs.memory_laws.Follow.{later_same, same, with_set, with_change, known_at}
use Rattle.ref_lib.proofs.memory_laws.Steps.{and_then, after_any, either, Leaves}
use Rattle.ref_lib.proofs.memory_laws.Elements.{found_as_known, live_at_known, found_known}

type_or_known : (types : ℕ) (id : TypeId) (o : Option TypeId) → id.0 < types → IsKnown types o → IsKnown types (type_or id o)
type_or_known types id None h k = h
type_or_known types id (Some old) h k = k

-- parts put into an instance, which gets a type where it has none
pub parts_follow : (table : Table) (types : ℕ) (memory : List Instance) (i : ℕ) (id : TypeId) (parts : Parts) → AreKnown types memory → id.0 < types → Follows types None memory (with_all table memory i id parts)
parts_follow table types memory i id parts known h =
    with_change types None memory i (λ inst. with_parts table parts (typed_as id inst)) known (λ j ne. refl)
    (λ a. record { key = refl; bytes = refl; typed = λ t e. ap (type_or id) e; live = (later_same false a refl).live })
    (λ a k. type_or_known types id a.ty h k)

module _ (table : Table) (types : ℕ) (memory : List Instance) (known : AreKnown types memory) where
  value_follows : (i : ℕ) (o : Option Instance) (path : List PathStep) (found : Ctype) (cells : CellList) → slice_get memory i ≡ o → IfOk (written_in table memory i o path found cells) (λ after. Follows types None memory after)
  value_follows i None path found cells e = tt
  value_follows i (Some inst) path found cells e =
      with_set types None memory i inst (with_value table inst path found cells) known e (λ j ne. refl)
      (record { key = refl; bytes = refl; typed = λ t q. q; live = (later_same false inst refl).live })
      (known_at types memory i inst known e)

  found_follows : (place : Cell) (cells : CellList) (r : Result Ctype Reason) → IfOk (write_found table memory place cells r) (λ after. Follows types None memory after)
  found_follows place cells (Err reason) = tt
  found_follows (Pointer i path past) cells (Ok found) = value_follows i (slice_get memory i) path found cells refl
  found_follows place cells (Ok found) = tt

  -- a value written at a place
  pub written_follows : (place : Cell) (t : Ctype) (value : Value) → IfOk (write table memory place t value) (λ after. Follows types None memory after)
  unfolding write
  written_follows place t value = found_follows place value.cells (reach table memory place t)

module _ (table : Table) (named : AreNamed table) (made : IsMade table) (memory : List Instance) (known : AreKnown (length table.terms) memory) where
  stays : Follows (length table.terms) None memory memory
  stays = same (length table.terms) memory known

  puts_leaves : (i : ℕ) (id : TypeId) (parts : Parts) (value : Cell) → id.0 < length table.terms → Leaves table memory (puts table memory i id parts value)
  puts_leaves i id parts value h = parts_follow table (length table.terms) memory i id parts known h

  to_leaves : (a1 : Cell) (bytes : ℕ) (source target : Found) → source.run.of.0 < length table.terms → Leaves table memory (copy_to table memory a1 bytes source target)
  to_leaves a1 bytes source target h =
      after_any (parts_of bytes (size_in table source.run.of)) _ _
      (λ n. after_any (within n source.run.room) _ _
      (λ m. after_any (within m target.run.room) _ _
      (λ k. after_any (copied table memory source target.run 0 k) _ _
      (λ parts. puts_leaves target.number source.run.of parts a1 h))))

  -- memcpy, memmove
  pub copy_leaves : (a1 a2 a3 : Cell) → Leaves table memory (copy_row table memory a1 a2 a3)
  copy_leaves a1 a2 a3 =
      either (count_of a3 == 0) (gives memory (one_cell a1)) (found_at table memory a2 >>= copy_from table memory a1 (count_of a3)) _ stays
      (and_then (found_at table memory a2) (copy_from table memory a1 (count_of a3)) (λ found. found.run.of.0 < length table.terms) _ (found_known table named made memory known a2)
      (λ source h. after_any (target_for table memory a1 source.run.of >>= alike table source.run.of) (copy_to table memory a1 (count_of a3) source) _
      (λ target. to_leaves a1 (count_of a3) source target h)))

  target_known : (a1 : Cell) → IfOk (target_at memory a1) (λ inst. IsKnown (length table.terms) inst.ty)
  target_known Null = tt
  target_known (Pointer i path past) = live_at_known table named made memory known i
  target_known a1 = tt

  run_known : (a1 : Cell) (inst : Instance) → IsKnown (length table.terms) inst.ty → IfOk (target_run table a1 inst) (λ found. found.run.of.0 < length table.terms)
  run_known (Pointer i path past) inst h = found_as_known table named made i inst path past inst.ty h
  run_known a1 inst h = tt

  aimed_known : (a1 : Cell) (byte bytes : ℕ) (inst : Instance) (ty : Option TypeId) → IsKnown (length table.terms) inst.ty →
      IfOk (aimed_as table a1 byte bytes inst ty) (λ o. IfSome o (λ found. found.run.of.0 < length table.terms))
  aimed_known a1 byte bytes inst None h = either (is_whole a1 byte bytes inst.bytes) (Ok None) (Err Mismatch) _ tt tt
  aimed_known a1 byte bytes inst (Some id) h =
      and_then (target_run table a1 inst) (λ found. Ok (Some found)) (λ found. found.run.of.0 < length table.terms) _ (run_known a1 inst h) (λ found k. k)

  set_known : (a1 : Cell) (byte bytes : ℕ) → IfOk (set_target table memory a1 byte bytes) (λ o. IfSome o (λ found. found.run.of.0 < length table.terms))
  set_known a1 byte bytes =
      and_then (target_at memory a1) (λ inst. aimed_as table a1 byte bytes inst inst.ty) (λ inst. IsKnown (length table.terms) inst.ty) _ (target_known a1)
      (λ inst h. aimed_known a1 byte bytes inst inst.ty h)

  zeroed_leaves : (a1 : Cell) (i : ℕ) (o : Option Instance) → slice_get memory i ≡ o → Leaves table memory (zeroed memory a1 i o)
  zeroed_leaves a1 i None e = tt
  zeroed_leaves a1 i (Some inst) e =
      with_set (length table.terms) None memory i inst (record inst { zero = true }) known e (λ j ne. refl)
      (record { key = refl; bytes = refl; typed = λ t q. q; live = (later_same false inst refl).live })
      (known_at (length table.terms) memory i inst known e)

  whole_leaves : (a1 : Cell) → Leaves table memory (set_whole memory a1)
  whole_leaves (Pointer i path past) = zeroed_leaves (Pointer i path past) i (slice_get memory i) refl
  whole_leaves a1 = tt

  elements_leave : (a1 : Cell) (byte bytes : ℕ) (found : Found) → found.run.of.0 < length table.terms → Leaves table memory (set_run table memory a1 byte bytes found)
  elements_leave a1 byte bytes found h =
      either (byte == 0 || is_all_bytes table (type_of table found.run.of.0)) _ (Err Mismatch) _
      (after_any (parts_of bytes (size_in table found.run.of)) _ _
      (λ n. after_any (within n found.run.room) _ _
      (λ k. puts_leaves found.number found.run.of (set_parts found.run (set_cells table (type_of table found.run.of.0) byte) 0 k) a1 h)))
      tt

  there_leaves : (a1 : Cell) (byte bytes : ℕ) (o : Option Found) → IfSome o (λ found. found.run.of.0 < length table.terms) → Leaves table memory (set_there table memory a1 byte bytes o)
  there_leaves a1 byte bytes None h = whole_leaves a1
  there_leaves a1 byte bytes (Some found) h = elements_leave a1 byte bytes found h

  -- memset
  pub set_leaves : (a1 a2 a3 : Cell) → Leaves table memory (set_row table memory a1 a2 a3)
  set_leaves a1 a2 a3 =
      either (count_of a3 == 0) (gives memory (one_cell a1)) (set_at table memory a1 (count_of a2 % 256) (count_of a3)) _ stays
      (and_then (set_target table memory a1 (count_of a2 % 256) (count_of a3)) (set_there table memory a1 (count_of a2 % 256) (count_of a3))
      (λ o. IfSome o (λ found. found.run.of.0 < length table.terms)) _ (set_known a1 (count_of a2 % 256) (count_of a3))
      (λ o h. there_leaves a1 (count_of a2 % 256) (count_of a3) o h))

  -- strchr, strrchr, strstr, memchr
  pub search_leaves : (word : ℕ) (a1 : Cell) → Leaves table memory (search_row table memory word a1)
  search_leaves word a1 =
      either (is_odd word) (gives memory null_value) (moved table memory word a1 >>= λ cell. gives memory (one_cell cell)) _ stays
      (after_any (moved table memory word a1) (λ cell. gives memory (one_cell cell)) _ (λ cell. stays))

  end_leaves : (result : Ctype) (word : ℕ) (a2 cell : Cell) → Leaves table memory (store_end table memory result word a2 cell)
  end_leaves result word a2 cell =
      and_then (write table memory a2 (PointerTo VoidType) (one_cell cell)) _ (λ after. Follows (length table.terms) None memory after) _
      (written_follows table (length table.terms) memory known a2 (PointerTo VoidType) (one_cell cell)) (λ after h. h)

  -- strtol
  pub strtol_leaves : (result : Ctype) (word : ℕ) (a1 a2 : Cell) → Leaves table memory (strtol_row table memory result word a1 a2)
  strtol_leaves result word a1 a2 =
      either (is_null a2) (gives memory (number_value result (pos word))) (moved table memory word a1 >>= store_end table memory result word a2) _ stays
      (after_any (moved table memory word a1) (store_end table memory result word a2) _ (λ cell. end_leaves result word a2 cell))

  sized_known : (count size : ℕ) (found : Found) (o : Option ℕ) → found.run.of.0 < length table.terms → IfOk (let r : Result Found Reason = elim o [
    | None ↦ Err Mismatch
    | Some n ↦ if n == size then (within count found.run.room >>= λ n. Ok found) else Err Mismatch
  ] in r) (λ found. found.run.of.0 < length table.terms)
  sized_known count size found None h = tt
  sized_known count size found (Some n) h =
      either (n == size) (within count found.run.room >>= λ n. Ok found) (Err Mismatch) _ (after_any (within count found.run.room) (λ n. Ok found) _ (λ k. h)) tt

  array_known : (place : Cell) (count size : ℕ) → IfOk (array_at table memory place count size) (λ found. found.run.of.0 < length table.terms)
  array_known place count size =
      and_then (found_at table memory place) (checked_array table count size) (λ found. found.run.of.0 < length table.terms) _ (found_known table named made memory known place)
      (λ found h. sized_known count size found (size_in table found.run.of) h)

  compares_leaves : (compare a b : Cell) → Leaves table memory (compares memory compare a b)
  compares_leaves Null a b = tt
  compares_leaves (Function key) a b = stays
  compares_leaves compare a b = tt

  sort_turn_leaves : (count word : ℕ) (compare : Cell) (found : Found) → found.run.of.0 < length table.terms → Leaves table memory (sort_turn table memory count word compare found)
  sort_turn_leaves count word compare found h =
      either (word == 0 || count == 0) (gives memory no_value) _ _ stays
      (either (is_odd word) (compares memory compare (element_at found (first_of count word)) (element_at found (second_of count word)))
      (swapped table memory found (first_of count word) (second_of count word) >>= swaps table memory found) _
      (compares_leaves compare (element_at found (first_of count word)) (element_at found (second_of count word)))
      (after_any (swapped table memory found (first_of count word) (second_of count word)) (swaps table memory found) _
      (λ parts. parts_follow table (length table.terms) memory found.number found.run.of parts known h)))

  -- qsort
  pub sort_leaves : (word : ℕ) (a1 a2 a3 a4 : Cell) → Leaves table memory (sort_row table memory word a1 a2 a3 a4)
  sort_leaves word a1 a2 a3 a4 =
      and_then (array_at table memory a1 (count_of a2) (count_of a3)) (sort_turn table memory (count_of a2) word a4) (λ found. found.run.of.0 < length table.terms) _
      (array_known a1 (count_of a2) (count_of a3)) (λ found h. sort_turn_leaves (count_of a2) word a4 found h)

  find_turn_leaves : (count word : ℕ) (key compare : Cell) (found : Found) → Leaves table memory (find_turn memory count word key compare found)
  find_turn_leaves count word key compare found =
      either (word == 0 || count == 0) (gives memory null_value) _ _ stays
      (either (is_odd word) (compares memory compare key (element_at found (first_of count word))) (gives memory (one_cell (element_at found (first_of count word)))) _
      (compares_leaves compare key (element_at found (first_of count word))) stays)

  -- bsearch
  pub find_leaves : (word : ℕ) (a1 a2 a3 a4 a5 : Cell) → Leaves table memory (find_row table memory word a1 a2 a3 a4 a5)
  find_leaves word a1 a2 a3 a4 a5 =
      after_any (array_at table memory a2 (count_of a3) (count_of a4)) (find_turn memory (count_of a3) word a1 a5) _
      (λ found. find_turn_leaves (count_of a3) word a1 a5 found)
