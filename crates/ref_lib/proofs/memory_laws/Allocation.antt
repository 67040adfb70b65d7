-- What the rows leave that make objects and end them.
use Rattle.std.proofs.Common.{◌≡◌, ℕ, Bool, true, false, cond, List, Option, Some, None, Err, IfOk, length, refl}
use Rattle.std.specs.List.{slice_get}
use Rattle.c_types.specs.declared.key.ObjectKey.{ObjectKey}
use Rattle.c_types.specs.declared.term.TypeId.{TypeId}
use Rattle.c_types.specs.Table.{Table}
use Rattle.ref_cells.specs.declared.cells.Reason.TheVariants.{Mismatch}
use Rattle.ref_cells.specs.declared.cells.Cell.{Cell}
use Rattle.ref_cells.specs.declared.cells.Cell.TheVariants.{Unset, Number, Null, Pointer, Function}
use Rattle.ref_cells.specs.declared.instance.Instance.{Instance}
use Rattle.ref_cells.specs.Cells.{CellList}
use Rattle.ref_cells.specs.Places.{AreKnown}
use Rattle.ref_elements.specs.Arguments.{count_of}
use Rattle.ref_elements.specs.Outcomes.{Effect, gives, null_value}
use Rattle.ref_elements.specs.Objects.{is_odd, with_new, object_from, element_of_object, place_of_object}
use Rattle.ref_cells.specs.Values.{listed}
use Rattle.ref_lib.specs.ref_alloc.Allocation.{allocated, malloc_row, calloc_row, heap_at, ended, freed, free_row, kept_elements, takes, regrown_in, regrown, regrown_at, realloc_of, realloc_row, object_row, perhaps_row, place_row, all_number, ctype_set, ctype_in, ctype_row}
use Rattle.ref_lib.specs.memory_laws.Kept.{Follows}
use Rattle.ref_lib.proofs.memory_laws.Follow.{later_same, same, known_at, with_more, with_set, with_end, then_follows}
use Rattle.ref_lib.proofs.memory_laws.Steps.{either, Leaves}

-- an effect after which that instance has ended
abbrev pub LeavesBut : Table → Option ℕ → List Instance → Effect → Type 0
LeavesBut table ended memory given = IfOk given (λ e. Follows (length table.terms) ended memory e.memory)

module _ (table : Table) (memory : List Instance) (known : AreKnown (length table.terms) memory) where
  stays : Follows (length table.terms) None memory memory
  stays = same (length table.terms) memory known

  allocated_leaves : (key : ObjectKey) (bytes : ℕ) (zero : Bool) → Leaves table memory (allocated memory key bytes zero)
  allocated_leaves key bytes zero = with_more (length table.terms) memory _ known tt

  -- malloc
  pub malloc_leaves : (key : ObjectKey) (word : ℕ) (a1 : Cell) → Leaves table memory (malloc_row memory key word a1)
  malloc_leaves key word a1 = either (is_odd word) (gives memory null_value) (allocated memory key (count_of a1) false) _ stays (allocated_leaves key (count_of a1) false)

  -- calloc
  pub calloc_leaves : (key : ObjectKey) (word : ℕ) (a1 a2 : Cell) → Leaves table memory (calloc_row memory key word a1 a2)
  calloc_leaves key word a1 a2 = either (is_odd word) (gives memory null_value) (allocated memory key _ true) _ stays (allocated_leaves key _ true)

  freed_leaves : (o : Option ℕ) → LeavesBut table o memory (freed memory o)
  freed_leaves None = tt
  freed_leaves (Some i) = with_end (length table.terms) memory i known

  -- free
  pub free_leaves : (a1 : Cell) → LeavesBut table (heap_at memory a1) memory (free_row memory a1)
  free_leaves Null = stays
  free_leaves (Pointer i path past) = freed_leaves (heap_at memory (Pointer i path past))
  free_leaves Unset = tt
  free_leaves (Number n) = tt
  free_leaves (Function key) = tt

  regrown_in_leaves : (key : ObjectKey) (i bytes : ℕ) (old : Instance) (cells : CellList) → slice_get memory i ≡ Some old → LeavesBut table (Some i) memory (regrown_in memory key i bytes old cells)
  regrown_in_leaves key i bytes old cells e =
      let more = with_more (length table.terms) memory (record { key = key; live = true; ty = old.ty; bytes = bytes; zero = false; cells = cells }) known (known_at (length table.terms) memory i old known e) in
      then_follows (length table.terms) (Some i) memory (with_new memory key old.ty bytes false cells) (ended (with_new memory key old.ty bytes false cells) i) more
      (with_end (length table.terms) (with_new memory key old.ty bytes false cells) i more.known)

  regrown_leaves : (key : ObjectKey) (fixed : Option TypeId) (bytes i : ℕ) (o : Option Instance) → slice_get memory i ≡ o → LeavesBut table (Some i) memory (regrown table memory key fixed bytes i o)
  regrown_leaves key fixed bytes i None e = tt
  regrown_leaves key fixed bytes i (Some old) e =
      either (takes table fixed old.ty) (regrown_in memory key i bytes old (kept_elements table old bytes old.ty)) (Err Mismatch) _
      (regrown_in_leaves key i bytes old (kept_elements table old bytes old.ty) e) tt

  regrown_at_leaves : (key : ObjectKey) (fixed : Option TypeId) (bytes : ℕ) (o : Option ℕ) → LeavesBut table o memory (regrown_at table memory key fixed bytes o)
  regrown_at_leaves key fixed bytes None = tt
  regrown_at_leaves key fixed bytes (Some i) = regrown_leaves key fixed bytes i (slice_get memory i) refl

  realloc_of_leaves : (key : ObjectKey) (fixed : Option TypeId) (bytes : ℕ) (a1 : Cell) → LeavesBut table (heap_at memory a1) memory (realloc_of table memory key fixed bytes a1)
  realloc_of_leaves key fixed bytes Null = allocated_leaves key bytes false
  realloc_of_leaves key fixed bytes (Pointer i path past) = regrown_at_leaves key fixed bytes (heap_at memory (Pointer i path past))
  realloc_of_leaves key fixed bytes Unset = tt
  realloc_of_leaves key fixed bytes (Number n) = tt
  realloc_of_leaves key fixed bytes (Function f) = tt

  -- realloc
  pub realloc_leaves : (key : ObjectKey) (fixed : Option TypeId) (word : ℕ) (a1 a2 : Cell) →
      LeavesBut table (cond (is_odd word) None (heap_at memory a1)) memory (realloc_row table memory key fixed word a1 a2)
  realloc_leaves key fixed word a1 a2 = at (is_odd word)
    where
      at : (b : Bool) → LeavesBut table (cond b None (heap_at memory a1)) memory (cond b (gives memory null_value) (realloc_of table memory key fixed (count_of a2) a1))
      at true = stays
      at false = realloc_of_leaves key fixed (count_of a2) a1

  element_leaves : (o : Option ℕ) → Leaves table memory (element_of_object memory o)
  element_leaves None = tt
  element_leaves (Some i) = stays

  -- strerror
  pub object_leaves : (position : ℕ) → Leaves table memory (object_row position memory)
  object_leaves position = element_leaves (object_from position 0 memory)

  -- getenv, fopen
  pub perhaps_leaves : (position word : ℕ) → Leaves table memory (perhaps_row position memory word)
  perhaps_leaves position word = either (is_odd word) (gives memory null_value) (object_row position memory) _ stays (object_leaves position)

  of_object_leaves : (o : Option ℕ) → Leaves table memory (place_of_object memory o)
  of_object_leaves None = tt
  of_object_leaves (Some i) = stays

  -- __errno_location
  pub place_leaves : (position : ℕ) → Leaves table memory (place_row position memory)
  place_leaves position = of_object_leaves (object_from position 0 memory)

  classes_leaves : (n i place : ℕ) (o : Option Instance) → slice_get memory i ≡ o → Leaves table memory (ctype_set table memory n i place o)
  classes_leaves n i place None e = tt
  classes_leaves n i place (Some inst) e =
      with_set (length table.terms) None memory i inst (record inst { cells = listed (all_number table n inst.ty) }) known e (λ j ne. refl)
      (record { key = refl; bytes = refl; typed = λ t q. q; live = (later_same false inst refl).live })
      (known_at (length table.terms) memory i inst known e)

  both_leaves : (n : ℕ) (o p : Option ℕ) → Leaves table memory (ctype_in table memory n o p)
  both_leaves n (Some i) (Some place) = classes_leaves n i place (slice_get memory i) refl
  both_leaves n o p = tt

  -- __ctype_b_loc
  pub ctype_leaves : (word : ℕ) → Leaves table memory (ctype_row table memory word)
  ctype_leaves word = both_leaves _ (object_from 8 0 memory) (object_from 7 0 memory)
