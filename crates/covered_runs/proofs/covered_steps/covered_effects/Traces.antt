-- Each effect goes on as its row may, and adds at most the object of the call.
use Rattle.std.proofs.Common.{arith, ◌≡◌, ◌⊎◌, inl, inr, ℕ, zero, suc, ◌%◌, ◌-◌, ◌<◌, ◌==◌, ◌||◌, ℤ, pos, Bool, true, false, cond, List, [], ◌∷◌, ◌++◌, Option, Some, None, Result, Ok, Err, length, length-set, set, take, slice_get, refl, sym, ap, subst, ◌∙◌}
use Rattle.std.specs.Prelude.{IfOk}
use Rattle.c_types.specs.declared.key.ObjectKey.{ObjectKey}
use Rattle.c_types.specs.declared.term.PathStep.{PathStep}
use Rattle.c_types.specs.declared.term.TypeId.{TypeId}
use Rattle.c_types.specs.Trees.{Ctype, PointerTo, VoidType}
use Rattle.c_types.specs.Table.{Table, type_of}
use Rattle.ref_cells.specs.declared.cells.Reason.{Reason}
use Rattle.ref_cells.specs.declared.cells.Reason.TheVariants.{Mismatch}
use Rattle.ref_cells.specs.declared.cells.Cell.{Cell}
use Rattle.ref_cells.specs.declared.cells.Cell.TheVariants.{Null, Function, Pointer}
use Rattle.ref_cells.specs.declared.cells.Value.{Value}
use Rattle.ref_cells.specs.declared.instance.Instance.{Instance}
use Rattle.ref_cells.specs.Cells.{CellList}
use Rattle.ref_cells.specs.Places.{reach}
use Rattle.ref_mem.specs.Reads.{one_cell}
use Rattle.ref_mem.specs.Writes.{changed, written_in, write_found, write}
use Rattle.ref_elements.specs.declared.runs.Found.{Found}
use Rattle.ref_elements.specs.Arguments.{argument, count_of}
use Rattle.ref_elements.specs.Objects.{is_odd, with_new, object_from, element_of_object, place_of_object}
use Rattle.ref_elements.specs.Outcomes.{Effected, Effect, stores_and_gives, number_value}
use Rattle.ref_elements.specs.Parts.{Parts, with_all}
use Rattle.ref_elements.specs.Runs.{◌>>=◌, found_at, size_in, within, parts_of, element_at}
use Rattle.ref_copies.specs.Copies.{copy_row, copy_to, copy_from, copied, target_for, alike, set_row, set_run, set_there, set_whole, set_target, set_parts, set_cells, zeroed, is_all_bytes}
use Rattle.ref_copies.specs.Turns.{search_row, strtol_row, sort_row, find_row, store_end, moved, is_null, compares, sort_turn, find_turn, swapped, swaps, array_at, first_of, second_of}
use Rattle.ref_texts.specs.Texts.{duplicated, block_of, blocks_in}
use Rattle.ref_texts.specs.Reading.{text_at, part_at, compared_at, compared_part}
use Rattle.ref_texts.specs.Writing.{text_parts, with_text, writes, closed, filled_up, text_of}
use Rattle.ref_lib.specs.declared.rows.Making.{Making}
use Rattle.ref_lib.specs.declared.rows.Making.TheVariants.{Malloc, Calloc, Realloc, Free, Perhaps, Object, Place, Classes}
use Rattle.ref_lib.specs.declared.rows.Elements.{Elements}
use Rattle.ref_lib.specs.declared.rows.Elements.TheVariants.{CopyBytes, SetBytes, Search, Strtol, Sort, Find}
use Rattle.ref_lib.specs.declared.rows.Texts.{Texts}
use Rattle.ref_lib.specs.declared.rows.Texts.TheVariants.{Length, Compare, ComparePart, CopyText, AddText, CopyPart, Duplicate, Print, PrintPart, Line, Block}
use Rattle.ref_lib.specs.declared.rows.Plain.{Plain}
use Rattle.ref_lib.specs.declared.rows.Plain.TheVariants.{AnyNumber, Byte, InClass, ToUpper, ToLower, Keep, Exit, Abort}
use Rattle.ref_lib.specs.declared.rows.Row.{Row}
use Rattle.ref_lib.specs.declared.rows.Row.TheVariants.{Makes, Moves, Writes, Answers}
use Rattle.ref_lib.specs.ref_alloc.Allocation.{kept_elements, regrown, regrown_at, realloc_of, heap_at, freed, free_row, takes, ctype_set, ctype_in}
use Rattle.ref_lib.specs.ref_alloc.Plain.{keep_row}
use Rattle.ref_lib.specs.Effects.{rows, makes, moves, spells, answers, row_effect, effect}
use Rattle.covering_laws.specs.covered_state.Exists.{AllBelow, MemoryBelow}
use Rattle.covered_runs.proofs.covered_steps.covered_effects.Below.{kept_below, text_below}
use Rattle.covered_runs.specs.covered_steps.covered_effects.Traces.{MayCall, MayGo, Adds, IsTraced, EffectsTraced}

some_one : {X : Type 0} → {x y : X} → ◌≡◌ {A = Option X} (Some x) (Some y) → x ≡ y
some_one h = cc

none_some : {X : Type 0} → {x : X} → ◌≡◌ {A = Option X} None (Some x) → ⊥
none_some h = cc

err_ok : {r : Reason} → {x : Effected} → ◌≡◌ {A = Effect} (Err r) (Ok x) → ⊥
err_ok h = cc

after : {A : Type 0} (P : Effected → Type 0) (r : Result A Reason) (f : A → Effect) → ((x : A) → IfOk (f x) P) → IfOk (r >>= f) P
after P (Ok x) f g = g x
after P (Err e) f g = tt

either : (P : Effected → Type 0) (b : Bool) (x y : Effect) → IfOk x P → IfOk y P → IfOk (cond b x y) P
either P true x y h g = h
either P false x y h g = g

-- changes of instances leave their number
long_changed : (memory : List Instance) (i : ℕ) (o : Option Instance) (change : Instance → Instance) → length (changed memory i o change) ≡ length memory
long_changed memory i None change = refl
long_changed memory i (Some inst) change = length-set memory i (change inst)

long_written : (table : Table) (memory : List Instance) (i : ℕ) (o : Option Instance) (path : List PathStep) (t : Ctype) (value : CellList) → IfOk (written_in table memory i o path t value) (λ m. length m ≡ length memory)
long_written table memory i None path t value = tt
long_written table memory i (Some inst) path t value = length-set memory i _

long_found : (table : Table) (memory : List Instance) (place : Cell) (value : CellList) (r : Result Ctype Reason) → IfOk (write_found table memory place value r) (λ m. length m ≡ length memory)
long_found table memory place value (Err e) = tt
long_found table memory (Pointer i path past) value (Ok t) = long_written table memory i (slice_get memory i) path t value
long_found table memory place value (Ok t) = tt

long_write : (table : Table) (memory : List Instance) (place : Cell) (t : Ctype) (value : Value) → IfOk (write table memory place t value) (λ m. length m ≡ length memory)
unfolding write
long_write table memory place t value = long_found table memory place value.cells (reach table memory place t)

long_text : (table : Table) (memory : List Instance) (place : Cell) (parts : Parts) → length (with_text table memory place parts) ≡ length memory
long_text table memory (Pointer i path past) parts = long_changed memory i (slice_get memory i) _
long_text table memory place parts = refl

-- an instance of a memory with one more
get_end : (xs : List Instance) (b : Instance) (i : ℕ) (a : Instance) → slice_get (xs ++ b ∷ []) i ≡ Some a → (i < length xs) ⊎ ((i ≡ length xs) × (b ≡ a))
get_end [] b zero a e = inr (refl, some_one e)
get_end [] b (suc i) a e = absurd (none_some e)
get_end (x ∷ xs) b zero a e = inl (omega arith)
get_end (x ∷ xs) b (suc i) a e = elim (get_end xs b i a e) [ inl lt ↦ inl (omega arith) | inr at ↦ (let same = at.0 in inr ((omega arith), at.1)) ]

-- which is one of these, or the other
get_either : (xs : List Instance) (b : Instance) (i : ℕ) (a : Instance) → slice_get (xs ++ b ∷ []) i ≡ Some a → (slice_get xs i ≡ Some a) ⊎ (b ≡ a)
get_either [] b zero a e = inr (some_one e)
get_either [] b (suc i) a e = absurd (none_some e)
get_either (x ∷ xs) b zero a e = inl e
get_either (x ∷ xs) b (suc i) a e = get_either xs b i a e

-- a change of a key's instance leaves its key and its cells
key_changed : (xs : List Instance) (j : ℕ) (o : Option Instance) → slice_get xs j ≡ o → (i : ℕ) (a : Instance) → slice_get (changed xs j o (λ inst. record inst { live = false })) i ≡ Some a
    → (b : Instance) × (slice_get xs i ≡ Some b) × (a.key ≡ b.key) × (a.cells ≡ b.cells)
key_changed xs j None is i a e = (a, e, refl, refl)
key_changed xs j (Some inst) is i a e = by xs j i is e
  where
    by : (xs : List Instance) (j i : ℕ) → slice_get xs j ≡ Some inst → slice_get (set xs j (record inst { live = false })) i ≡ Some a → (b : Instance) × (slice_get xs i ≡ Some b) × (a.key ≡ b.key) × (a.cells ≡ b.cells)
    by [] j i is e = absurd (none_some is)
    by (x ∷ xs) zero zero is e = (
      x,
      refl,
      ap (λ (z : Instance). z.key) (sym (some_one e)) ∙ ap (λ (z : Instance). z.key) (sym (some_one is)),
      ap (λ (z : Instance). z.cells) (sym (some_one e)) ∙ ap (λ (z : Instance). z.cells) (sym (some_one is)),
    )
    by (x ∷ xs) zero (suc i) is e = (a, e, refl, refl)
    by (x ∷ xs) (suc j) zero is e = (a, e, refl, refl)
    by (x ∷ xs) (suc j) (suc i) is e = by xs j i is e

module _ (table : Table) (memory : List Instance) (key : ObjectKey) (arguments : List Value) where
  abbrev Is : Row → Effected → Type 0
  Is row e = MayGo row arguments e.outcome.next × Adds memory key e

  freed_so : (row : Row) (o : Option ℕ) → IfOk (freed memory o) (Is row)
  freed_so row None = tt
  freed_so row (Some i) = (tt, inl (long_changed memory i (slice_get memory i) _))

  free_so : (row : Row) (a1 : Cell) → IfOk (free_row memory a1) (Is row)
  free_so row Null = (tt, inl refl)
  free_so row a1 = freed_so row (heap_at memory a1)

  -- a new instance behind the others
  with_one : (ty : Option TypeId) (bytes : ℕ) (empty : Bool) (cells : CellList) (i : ℕ) (inst : Instance) → slice_get (with_new memory key ty bytes empty cells) i ≡ Some inst → (i < length memory) ⊎ ((i ≡ length memory) × (inst.key ≡ key))
  with_one ty bytes empty cells i inst e =
      elim (get_end memory (record { key = key; live = true; ty = ty; bytes = bytes; zero = empty; cells = cells }) i inst e) [ inl lt ↦ inl lt | inr at ↦ inr (at.0, ap (λ (x : Instance). x.key) (sym at.1)) ]

  -- and its cells
  cells_one : (ty : Option TypeId) (bytes : ℕ) (empty : Bool) (cells : CellList) → AllBelow (length memory) cells → MemoryBelow (length memory) memory → MemoryBelow (length memory) (with_new memory key ty bytes empty cells)
  cells_one ty bytes empty cells h all i inst e =
      elim (get_either memory (record { key = key; live = true; ty = ty; bytes = bytes; zero = empty; cells = cells }) i inst e) [
        | inl old ↦ all i inst old
        | inr new ↦ subst (λ (x : Instance). AllBelow (length memory) x.cells) new h
      ]

  regrown_so : (row : Row) (fixed : Option TypeId) (bytes i : ℕ) (o : Option Instance) → slice_get memory i ≡ o → IfOk (regrown table memory key fixed bytes i o) (Is row)
  regrown_so row fixed bytes i None at = tt
  regrown_so row fixed bytes i (Some old) at =
      either (Is row) (takes table fixed old.ty) _ _ (
        tt,
        inr (record {
          each = λ k inst e.
              let longer = with_new memory key old.ty bytes false (kept_elements table old bytes old.ty) in
              let b = key_changed longer i (slice_get longer i) refl k inst e in
              elim (with_one old.ty bytes false (kept_elements table old bytes old.ty) k b.0 b.1) [ inl lt ↦ inl lt | inr last ↦ inr (last.0, b.2 ∙ last.1) ];
          cells = λ all k inst e.
              let cells : CellList = kept_elements table old bytes old.ty in
              let longer = with_new memory key old.ty bytes false cells in
              let b = key_changed longer i (slice_get longer i) refl k inst e in
              subst (AllBelow (length memory)) (sym b.3) (cells_one old.ty bytes false cells (kept_below (length memory) table old bytes old.ty (all i old at)) all k b.0 b.1);
          value = refl;
          next = refl;
        }),
      )
      tt

  regrown_at_so : (row : Row) (fixed : Option TypeId) (bytes : ℕ) (o : Option ℕ) → IfOk (regrown_at table memory key fixed bytes o) (Is row)
  regrown_at_so row fixed bytes None = tt
  regrown_at_so row fixed bytes (Some i) = regrown_so row fixed bytes i (slice_get memory i) refl

  realloc_so : (row : Row) (fixed : Option TypeId) (bytes : ℕ) (a1 : Cell) → IfOk (realloc_of table memory key fixed bytes a1) (Is row)
  realloc_so row fixed bytes Null = (tt, inr (record { each = with_one None bytes false []; cells = cells_one None bytes false [] tt; value = refl; next = refl }))
  realloc_so row fixed bytes a1 = regrown_at_so row fixed bytes (heap_at memory a1)

  element_so : (row : Row) (o : Option ℕ) → IfOk (element_of_object memory o) (Is row)
  element_so row None = tt
  element_so row (Some i) = (tt, inl refl)

  place_so : (row : Row) (o : Option ℕ) → IfOk (place_of_object memory o) (Is row)
  place_so row None = tt
  place_so row (Some i) = (tt, inl refl)

  set_so : (row : Row) (n i place : ℕ) (o : Option Instance) → IfOk (ctype_set table memory n i place o) (Is row)
  set_so row n i place None = tt
  set_so row n i place (Some inst) = (tt, inl (length-set memory i _))

  ctype_so : (row : Row) (n : ℕ) (i place : Option ℕ) → IfOk (ctype_in table memory n i place) (Is row)
  ctype_so row n (Some i) (Some place) = set_so row n i place (slice_get memory i)
  ctype_so row n (Some i) None = tt
  ctype_so row n None place = tt

  makes_so : (row : Making) (fixed : Option TypeId) (word : ℕ) → IfOk (makes table memory row key fixed arguments word) (Is (Makes row))
  makes_so Malloc fixed word =
      either (Is (Makes Malloc)) (is_odd word) _ _ (tt, inl refl) (tt, inr (record { each = with_one None (count_of (argument arguments 0)) false []; cells = cells_one None (count_of (argument arguments 0)) false [] tt; value = refl; next = refl }))
  makes_so Calloc fixed word = either (Is (Makes Calloc)) (is_odd word) _ _ (tt, inl refl) (tt, inr (record { each = with_one None _ true []; cells = cells_one None _ true [] tt; value = refl; next = refl }))
  makes_so Realloc fixed word = either (Is (Makes Realloc)) (is_odd word) _ _ (tt, inl refl) (realloc_so (Makes Realloc) fixed (count_of (argument arguments 1)) (argument arguments 0))
  makes_so Free fixed word = free_so (Makes Free) (argument arguments 0)
  makes_so (Perhaps position) fixed word = either (Is (Makes (Perhaps position))) (is_odd word) _ _ (tt, inl refl) (element_so (Makes (Perhaps position)) (object_from position 0 memory))
  makes_so (Object position) fixed word = element_so (Makes (Object position)) (object_from position 0 memory)
  makes_so (Place position) fixed word = place_so (Makes (Place position)) (object_from position 0 memory)
  makes_so Classes fixed word = ctype_so (Makes Classes) (word % 65536) (object_from 8 0 memory) (object_from 7 0 memory)

  -- the rows over whole elements

  all_long : (i : ℕ) (id : TypeId) (parts : Parts) → length (with_all table memory i id parts) ≡ length memory
  all_long i id parts = long_changed memory i (slice_get memory i) _

  to_so : (a1 : Cell) (bytes : ℕ) (source target : Found) → IfOk (copy_to table memory a1 bytes source target) (Is (Moves CopyBytes))
  to_so a1 bytes source target =
      after (Is (Moves CopyBytes)) (parts_of bytes (size_in table source.run.of)) _
      (λ n. after (Is (Moves CopyBytes)) (within n source.run.room) _
      (λ m. after (Is (Moves CopyBytes)) (within m target.run.room) _
      (λ k. after (Is (Moves CopyBytes)) (copied table memory source target.run 0 k) _ (λ parts. (tt, inl (all_long target.number source.run.of parts))))))

  copy_so : (a1 a2 a3 : Cell) → IfOk (copy_row table memory a1 a2 a3) (Is (Moves CopyBytes))
  copy_so a1 a2 a3 =
      either (Is (Moves CopyBytes)) (count_of a3 == 0) _ _ (tt, inl refl)
      (after (Is (Moves CopyBytes)) (found_at table memory a2) (copy_from table memory a1 (count_of a3))
      (λ source. after (Is (Moves CopyBytes)) (target_for table memory a1 source.run.of >>= alike table source.run.of) (copy_to table memory a1 (count_of a3) source)
      (λ target. to_so a1 (count_of a3) source target)))

  zeroed_so : (a1 : Cell) (i : ℕ) (o : Option Instance) → IfOk (zeroed memory a1 i o) (Is (Moves SetBytes))
  zeroed_so a1 i None = tt
  zeroed_so a1 i (Some inst) = (tt, inl (long_changed memory i (Some inst) (λ (old : Instance). record old { zero = true })))

  whole_so : (a1 : Cell) → IfOk (set_whole memory a1) (Is (Moves SetBytes))
  whole_so (Pointer i path past) = zeroed_so (Pointer i path past) i (slice_get memory i)
  whole_so a1 = tt

  run_so : (a1 : Cell) (byte bytes : ℕ) (found : Found) → IfOk (set_run table memory a1 byte bytes found) (Is (Moves SetBytes))
  run_so a1 byte bytes found =
      either (Is (Moves SetBytes)) (byte == 0 || is_all_bytes table (type_of table found.run.of.0)) _ (Err Mismatch)
      (after (Is (Moves SetBytes)) (parts_of bytes (size_in table found.run.of)) _
      (λ n. after (Is (Moves SetBytes)) (within n found.run.room) _ (λ k. (tt, inl (all_long found.number found.run.of (set_parts found.run (set_cells table (type_of table found.run.of.0) byte) 0 k))))))
      tt

  there_so : (a1 : Cell) (byte bytes : ℕ) (o : Option Found) → IfOk (set_there table memory a1 byte bytes o) (Is (Moves SetBytes))
  there_so a1 byte bytes None = whole_so a1
  there_so a1 byte bytes (Some found) = run_so a1 byte bytes found

  memset_so : (a1 a2 a3 : Cell) → IfOk (set_row table memory a1 a2 a3) (Is (Moves SetBytes))
  memset_so a1 a2 a3 =
      either (Is (Moves SetBytes)) (count_of a3 == 0) _ _ (tt, inl refl)
      (after (Is (Moves SetBytes)) (set_target table memory a1 (count_of a2 % 256) (count_of a3)) (set_there table memory a1 (count_of a2 % 256) (count_of a3))
      (λ o. there_so a1 (count_of a2 % 256) (count_of a3) o))

  search_so : (word : ℕ) (a1 : Cell) → IfOk (search_row table memory word a1) (Is (Moves Search))
  search_so word a1 = either (Is (Moves Search)) (is_odd word) _ _ (tt, inl refl) (after (Is (Moves Search)) (moved table memory word a1) _ (λ cell. (tt, inl refl)))

  stored : (result : Ctype) (word : ℕ) (a2 cell : Cell) (r : Result (List Instance) Reason) → IfOk r (λ m. length m ≡ length memory)
      → IfOk (r >>= λ m. stores_and_gives m (number_value result (pos word)) ((a2, cell) ∷ [])) (Is (Moves Strtol))
  stored result word a2 cell (Ok m) h = (tt, inl h)
  stored result word a2 cell (Err reason) h = tt

  strtol_so : (result : Ctype) (word : ℕ) (a1 a2 : Cell) → IfOk (strtol_row table memory result word a1 a2) (Is (Moves Strtol))
  strtol_so result word a1 a2 =
      either (Is (Moves Strtol)) (is_null a2) _ _ (tt, inl refl)
      (after (Is (Moves Strtol)) (moved table memory word a1) (store_end table memory result word a2)
      (λ cell. stored result word a2 cell (write table memory a2 (PointerTo VoidType) (one_cell cell)) (long_write table memory a2 (PointerTo VoidType) (one_cell cell))))

  compares_so : (row : Row) → MayCall row → (compare a b : Cell) → IfOk (compares memory compare a b) (Is row)
  compares_so row may Null a b = tt
  compares_so row may (Function k) a b = (may, inl refl)
  compares_so row may compare a b = tt

  sort_so : (word : ℕ) (a1 a2 a3 a4 : Cell) → IfOk (sort_row table memory word a1 a2 a3 a4) (Is (Moves Sort))
  sort_so word a1 a2 a3 a4 =
      after (Is (Moves Sort)) (array_at table memory a1 (count_of a2) (count_of a3)) (sort_turn table memory (count_of a2) word a4)
      (λ found. either (Is (Moves Sort)) (word == 0 || count_of a2 == 0) _ _ (tt, inl refl)
      (either (Is (Moves Sort)) (is_odd word) _ _
      (compares_so (Moves Sort) tt a4 (element_at found (first_of (count_of a2) word)) (element_at found (second_of (count_of a2) word)))
      (after (Is (Moves Sort)) (swapped table memory found (first_of (count_of a2) word) (second_of (count_of a2) word)) (swaps table memory found)
      (λ parts. (tt, inl (all_long found.number found.run.of parts))))))

  find_so : (word : ℕ) (a1 a2 a3 a4 a5 : Cell) → IfOk (find_row table memory word a1 a2 a3 a4 a5) (Is (Moves Find))
  find_so word a1 a2 a3 a4 a5 =
      after (Is (Moves Find)) (array_at table memory a2 (count_of a3) (count_of a4)) (find_turn memory (count_of a3) word a1 a5)
      (λ found. either (Is (Moves Find)) (word == 0 || count_of a3 == 0) _ _ (tt, inl refl)
      (either (Is (Moves Find)) (is_odd word) _ _ (compares_so (Moves Find) tt a5 a1 (element_at found (first_of (count_of a3) word))) (tt, inl refl)))

  moves_so : (row : Elements) (result : Ctype) (word : ℕ) → IfOk (moves table memory row result arguments word) (Is (Moves row))
  moves_so CopyBytes result word = copy_so (argument arguments 0) (argument arguments 1) (argument arguments 2)
  moves_so SetBytes result word = memset_so (argument arguments 0) (argument arguments 1) (argument arguments 2)
  moves_so Search result word = search_so word (argument arguments 0)
  moves_so Strtol result word = strtol_so result word (argument arguments 0) (argument arguments 1)
  moves_so Sort result word = sort_so word (argument arguments 0) (argument arguments 1) (argument arguments 2) (argument arguments 3)
  moves_so Find result word = find_so word (argument arguments 0) (argument arguments 1) (argument arguments 2) (argument arguments 3) (argument arguments 4)

  -- the rows over characters

  writes_so : (row : Row) (place : Cell) (k : ℕ) (text : List ℤ) (value : Value) → IfOk (writes table memory place k text value) (Is row)
  writes_so row place k text value = after (Is row) (text_parts table memory place k text) _ (λ parts. (tt, inl (long_text table memory place parts)))

  spells_so : (row : Texts) (fixed : Option TypeId) (result : Ctype) (word : ℕ) → IfOk (spells table memory row key fixed result arguments word) (Is (Writes row))
  spells_so Length fixed result word = after (Is (Writes Length)) (text_at table memory (argument arguments 0)) _ (λ text. (tt, inl refl))
  spells_so Compare fixed result word = after (Is (Writes Compare)) (compared_at table memory (argument arguments 0) (argument arguments 1)) _ (λ n. (tt, inl refl))
  spells_so ComparePart fixed result word =
      after (Is (Writes ComparePart)) (compared_part table memory (argument arguments 0) (argument arguments 1) (count_of (argument arguments 2))) _ (λ n. (tt, inl refl))
  spells_so CopyText fixed result word =
      after (Is (Writes CopyText)) (text_at table memory (argument arguments 1)) _
      (λ text. writes_so (Writes CopyText) (argument arguments 0) 0 (closed text) (one_cell (argument arguments 0)))
  spells_so AddText fixed result word =
      after (Is (Writes AddText)) (text_at table memory (argument arguments 0)) _
      (λ front. after (Is (Writes AddText)) (text_at table memory (argument arguments 1)) _
      (λ text. writes_so (Writes AddText) (argument arguments 0) (length front) (closed text) (one_cell (argument arguments 0))))
  spells_so CopyPart fixed result word =
      after (Is (Writes CopyPart)) (part_at table memory (argument arguments 1) (count_of (argument arguments 2))) _
      (λ text. writes_so (Writes CopyPart) (argument arguments 0) 0 (filled_up (count_of (argument arguments 2)) text) (one_cell (argument arguments 0)))
  spells_so Duplicate fixed result word =
      either (Is (Writes Duplicate)) (is_odd word) _ (duplicated table memory key fixed (argument arguments 0)) (tt, inl refl)
      (after (Is (Writes Duplicate)) (text_at table memory (argument arguments 0)) _ (λ text. (tt, inr (record { each = with_one fixed _ false _; cells = cells_one fixed _ false _ (text_below (length memory) 0 (closed text)); value = refl; next = refl }))))
  spells_so Print fixed result word = writes_so (Writes Print) (argument arguments 0) 0 (closed (text_of word)) (number_value result (pos word))
  spells_so PrintPart fixed result word =
      either (Is (Writes PrintPart)) (count_of (argument arguments 1) == 0) _ _ (tt, inl refl)
      (writes_so (Writes PrintPart) (argument arguments 0) 0 (closed (take (count_of (argument arguments 1) - 1) (text_of word))) (number_value result (pos word)))
  spells_so Line fixed result word =
      either (Is (Writes Line)) (word == 0) _ _ (tt, inl refl)
      (writes_so (Writes Line) (argument arguments 0) 0 (closed (take (count_of (argument arguments 1) - 1) (text_of word))) (one_cell (argument arguments 0)))
  spells_so Block fixed result word =
      writes_so (Writes Block) (argument arguments 0) 0 (block_of word (count_of (argument arguments 1)) (count_of (argument arguments 2)))
      (number_value result (pos (blocks_in (count_of (argument arguments 1)) (block_of word (count_of (argument arguments 1)) (count_of (argument arguments 2))))))

  -- the rows that look at no object

  keep_so : (result : Ctype) (a1 : Cell) → a1 ≡ argument arguments 0 → IfOk (keep_row memory result a1) (Is (Answers Keep))
  keep_so result Null is = tt
  keep_so result (Function k) is = (is, inl refl)
  keep_so result a1 is = tt

  answers_so : (row : Plain) (result : Ctype) (word : ℕ) → IfOk (answers memory row result arguments word) (Is (Answers row))
  answers_so Keep result word = keep_so result (argument arguments 0) refl
  answers_so AnyNumber result word = (tt, inl refl)
  answers_so Byte result word = (tt, inl refl)
  answers_so (InClass class) result word = (tt, inl refl)
  answers_so ToUpper result word = (tt, inl refl)
  answers_so ToLower result word = (tt, inl refl)
  answers_so Exit result word = (tt, inl refl)
  answers_so Abort result word = (tt, inl refl)

  of_row : (function : ℕ) (row : Row) (e : Effected) → slice_get rows function ≡ Some row → Is row e → IsTraced memory function key arguments e
  of_row function row e at h = record { row = row; row_is = at; goes = h.0; adds = h.1 }

  -- the effect of a row that is there
  traced_row : (function : ℕ) (e : Effected) (o : Option Row) (fixed : Option TypeId) (result : Ctype) (word : ℕ) → slice_get rows function ≡ o → row_effect table memory o key fixed result arguments word ≡ Ok e → IsTraced memory function key arguments e
  traced_row function e None fixed result word at is = absurd (err_ok is)
  traced_row function e (Some (Makes row)) fixed result word at is = of_row function (Makes row) e at (subst (λ (r : Effect). IfOk r (Is (Makes row))) is (makes_so row fixed word))
  traced_row function e (Some (Moves row)) fixed result word at is = of_row function (Moves row) e at (subst (λ (r : Effect). IfOk r (Is (Moves row))) is (moves_so row result word))
  traced_row function e (Some (Writes row)) fixed result word at is = of_row function (Writes row) e at (subst (λ (r : Effect). IfOk r (Is (Writes row))) is (spells_so row fixed result word))
  traced_row function e (Some (Answers row)) fixed result word at is = of_row function (Answers row) e at (subst (λ (r : Effect). IfOk r (Is (Answers row))) is (answers_so row result word))

pub effects_traced : EffectsTraced
unfolding effect
effects_traced table memory function key fixed result arguments word e is = traced_row table memory key arguments function e (slice_get rows function) fixed (type_of table result.0) word refl is
