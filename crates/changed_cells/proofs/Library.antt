-- What each of the library's functions leaves of memory.
use Rattle.std.proofs.Common.{arith, ◌≡◌, ◌∙◌, inl, inr, ℕ, zero, suc, ◌+◌, ◌*◌, ◌%◌, ◌^◌, ◌==◌, ◌&&◌, ◌||◌, not, eqb, Bool, true, false, cond, List, [], ◌∷◌, Option, Some, None, Err, Contains, length, set, slice_get, refl, sym, ap}
use Rattle.std.proofs.lemmas.Bool.{false≢true}
use Rattle.std.proofs.lemmas.Bool.Decides.{eqb_tells}
use Rattle.c_types.specs.declared.key.ObjectKey.{ObjectKey}
use Rattle.c_types.specs.declared.key.ObjectKey.TheVariants.{Library as LibraryKey}
use Rattle.c_types.specs.declared.term.PathStep.{PathStep}
use Rattle.c_types.specs.declared.term.TypeId.{TypeId}
use Rattle.c_types.specs.Trees.{Ctype}
use Rattle.c_types.specs.Table.{Table, type_of}
use Rattle.ref_cells.specs.declared.cells.Reason.TheVariants.{Mismatch}
use Rattle.ref_cells.specs.declared.cells.Cell.{Cell}
use Rattle.ref_cells.specs.declared.cells.Cell.TheVariants.{Unset, Number, Null, Pointer, Function}
use Rattle.ref_cells.specs.declared.cells.Value.{Value}
use Rattle.ref_cells.specs.declared.instance.Instance.{Instance}
use Rattle.ref_cells.specs.Cells.{CellList}
use Rattle.ref_cells.specs.Values.{listed}
use Rattle.ref_elements.specs.Arguments.{argument, count_of}
use Rattle.ref_elements.specs.Objects.{is_odd, with_new, object_from, element_of_object, place_of_object}
use Rattle.ref_elements.specs.Outcomes.{gives, null_value}
use Rattle.ref_lib.specs.declared.rows.Making.{Making}
use Rattle.ref_lib.specs.declared.rows.Making.TheVariants.{Malloc, Calloc, Realloc, Free, Perhaps, Object, Place, Classes}
use Rattle.ref_lib.specs.declared.rows.Elements.{Elements}
use Rattle.ref_lib.specs.declared.rows.Elements.TheVariants.{CopyBytes, SetBytes, Search, Strtol, Sort, Find}
use Rattle.ref_lib.specs.declared.rows.Texts.{Texts}
use Rattle.ref_lib.specs.declared.rows.Texts.TheVariants.{Length, Compare, ComparePart, CopyText, AddText, CopyPart, Duplicate, Print, PrintPart, Line, Block}
use Rattle.ref_lib.specs.declared.rows.Plain.{Plain}
use Rattle.ref_lib.specs.declared.rows.Plain.TheVariants.{AnyNumber, Byte, InClass, ToUpper, ToLower, Keep, Exit, Abort}
use Rattle.ref_lib.specs.declared.rows.Row.{Row}
use Rattle.ref_lib.specs.declared.rows.Row.TheVariants.{Makes, Moves, Writes, Answers}
use Rattle.ref_lib.specs.ref_alloc.Allocation.{allocated, malloc_row, calloc_row, heap_at, ended, freed, free_row, kept_elements, takes, regrown_in, regrown, regrown_at, realloc_of, realloc_row, object_row, perhaps_row, all_number, ctype_set, ctype_in}
use Rattle.ref_lib.specs.ref_alloc.Plain.{keep_row}
use Rattle.ref_lib.specs.Effects.{rows, makes, moves, spells, answers, row_effect, effect}
use Rattle.ref_lib.proofs.memory_laws.Steps.{either}
use Rattle.covering_laws.proofs.covered_library.Named.{object_there}
use Rattle.covered_runs.proofs.covered_steps.covered_effects.Called.{contains_at}
use Rattle.covered_runs.specs.touched_runs.called_frames.Looked.{looked_at, looked_in, looked_by}
use Rattle.changed_cells.proofs.Kept.{Same, then_same, more_same, ended_same, Keeps, keeps_all, same_keeps, set_keeps, all_stays}
use Rattle.changed_cells.proofs.Elements.{Leaves, IsThrough, copy_leaves, set_leaves, search_leaves, strtol_leaves, sort_leaves, find_leaves}
use Rattle.changed_cells.proofs.Texts.{length_leaves, compare_leaves, compare_part_leaves, copy_text_leaves, add_text_leaves, copy_part_leaves, duplicate_leaves, print_leaves, print_part_leaves, line_leaves, block_leaves}

some_one : {X : Type 0} → {x y : X} → ◌≡◌ {A = Option X} (Some x) (Some y) → x ≡ y
some_one h = cc

none_some : {X : Type 0} → {x : X} → ◌≡◌ {A = Option X} None (Some x) → ⊥
none_some h = cc

-- ---- the one function that sets the table of classes
abbrev is_classes : Row → Bool
is_classes (Makes Classes) = true
is_classes row = false

abbrev only_one : ℕ → List Row → Bool
only_one n [] = true
only_one n (row ∷ rest) = (not (is_classes row) || n == 53) && only_one (n + 1) rest

only_there : only_one 0 rows ≡ true
unfolding rows
only_there = refl

first_true : (a b : Bool) → (a && b) ≡ true → a ≡ true
first_true true b e = refl
first_true false b e = absurd (false≢true e)

second_true : (a b : Bool) → (a && b) ≡ true → b ≡ true
second_true true b e = e
second_true false b e = absurd (false≢true e)

same_number : (a b : ℕ) → eqb a b ≡ true → a ≡ b
same_number a b e = elim (eqb_tells a b) [ inl same ↦ same.1 | inr other ↦ absurd (false≢true (sym other.0 ∙ e)) ]

one_place : (n : ℕ) (list : List Row) (k : ℕ) → only_one n list ≡ true → slice_get list k ≡ Some (Makes Classes) → n + k ≡ 53
one_place n [] k h e = absurd (none_some e)
one_place n (row ∷ rest) zero h e =
    let here : n ≡ 53 = same_number n 53 (sym (ap (λ (r : Row). not (is_classes r) || n == 53) (some_one e)) ∙ first_true (not (is_classes row) || n == 53) (only_one (n + 1) rest) h) in omega arith
one_place n (row ∷ rest) (suc k) h e =
    let more : (n + 1) + k ≡ 53 = one_place (n + 1) rest k (second_true (not (is_classes row) || n == 53) (only_one (n + 1) rest) h) e in omega arith

module _ (table : Table) (memory : List Instance) (W : ℕ → List PathStep → Type 0) where
  all : Keeps table W memory memory
  all = keeps_all table W memory

  same : (after : List Instance) → Same memory after → Keeps table W memory after
  same after h = same_keeps table W memory after h

  -- ---- the rows that make objects, end them or name one of the library's
  allocated_leaves : (key : ObjectKey) (bytes : ℕ) (clear : Bool) → Leaves table memory W (allocated memory key bytes clear)
  allocated_leaves key bytes clear = same (with_new memory key None bytes clear []) (more_same memory _)

  malloc_leaves : (key : ObjectKey) (word : ℕ) (a1 : Cell) → Leaves table memory W (malloc_row memory key word a1)
  malloc_leaves key word a1 = either (is_odd word) (gives memory null_value) (allocated memory key (count_of a1) false) _ all (allocated_leaves key (count_of a1) false)

  calloc_leaves : (key : ObjectKey) (word : ℕ) (a1 a2 : Cell) → Leaves table memory W (calloc_row memory key word a1 a2)
  calloc_leaves key word a1 a2 =
      either (is_odd word) (gives memory null_value) (allocated memory key ((count_of a1 * count_of a2) % 2 ^ 64) true) _ all (allocated_leaves key ((count_of a1 * count_of a2) % 2 ^ 64) true)

  freed_leaves : (o : Option ℕ) → Leaves table memory W (freed memory o)
  freed_leaves None = tt
  freed_leaves (Some i) = same (ended memory i) (ended_same memory i)

  free_leaves : (a1 : Cell) → Leaves table memory W (free_row memory a1)
  free_leaves Null = all
  free_leaves (Pointer i path past) = freed_leaves (heap_at memory (Pointer i path past))
  free_leaves Unset = tt
  free_leaves (Number n) = tt
  free_leaves (Function key) = tt

  regrown_in_leaves : (key : ObjectKey) (i bytes : ℕ) (old : Instance) (cells : CellList) → Leaves table memory W (regrown_in memory key i bytes old cells)
  regrown_in_leaves key i bytes old cells =
      same (ended (with_new memory key old.ty bytes false cells) i)
      (then_same memory (with_new memory key old.ty bytes false cells) (ended (with_new memory key old.ty bytes false cells) i) (more_same memory _) (ended_same (with_new memory key old.ty bytes false cells) i))

  regrown_leaves : (key : ObjectKey) (fixed : Option TypeId) (bytes i : ℕ) (o : Option Instance) → Leaves table memory W (regrown table memory key fixed bytes i o)
  regrown_leaves key fixed bytes i None = tt
  regrown_leaves key fixed bytes i (Some old) =
      either (takes table fixed old.ty) (regrown_in memory key i bytes old (kept_elements table old bytes old.ty)) (Err Mismatch) _ (regrown_in_leaves key i bytes old (kept_elements table old bytes old.ty)) tt

  regrown_at_leaves : (key : ObjectKey) (fixed : Option TypeId) (bytes : ℕ) (o : Option ℕ) → Leaves table memory W (regrown_at table memory key fixed bytes o)
  regrown_at_leaves key fixed bytes None = tt
  regrown_at_leaves key fixed bytes (Some i) = regrown_leaves key fixed bytes i (slice_get memory i)

  realloc_of_leaves : (key : ObjectKey) (fixed : Option TypeId) (bytes : ℕ) (a1 : Cell) → Leaves table memory W (realloc_of table memory key fixed bytes a1)
  realloc_of_leaves key fixed bytes Null = allocated_leaves key bytes false
  realloc_of_leaves key fixed bytes (Pointer i path past) = regrown_at_leaves key fixed bytes (heap_at memory (Pointer i path past))
  realloc_of_leaves key fixed bytes Unset = tt
  realloc_of_leaves key fixed bytes (Number n) = tt
  realloc_of_leaves key fixed bytes (Function f) = tt

  realloc_leaves : (key : ObjectKey) (fixed : Option TypeId) (word : ℕ) (a1 a2 : Cell) → Leaves table memory W (realloc_row table memory key fixed word a1 a2)
  realloc_leaves key fixed word a1 a2 = either (is_odd word) (gives memory null_value) (realloc_of table memory key fixed (count_of a2) a1) _ all (realloc_of_leaves key fixed (count_of a2) a1)

  element_leaves : (o : Option ℕ) → Leaves table memory W (element_of_object memory o)
  element_leaves None = tt
  element_leaves (Some i) = all

  perhaps_leaves : (position word : ℕ) → Leaves table memory W (perhaps_row position memory word)
  perhaps_leaves position word = either (is_odd word) (gives memory null_value) (object_row position memory) _ all (element_leaves (object_from position 0 memory))

  of_object_leaves : (o : Option ℕ) → Leaves table memory W (place_of_object memory o)
  of_object_leaves None = tt
  of_object_leaves (Some i) = all

  -- the table of classes is written
  abbrev pub AreFilled : Type 0
  AreFilled = (i : ℕ) (inst : Instance) → slice_get memory i ≡ Some inst → inst.key ≡ LibraryKey 8 → (p : List PathStep) → W i p

  classes_leaves : (n i place : ℕ) (o : Option Instance) → slice_get memory i ≡ o → ((inst : Instance) → slice_get memory i ≡ Some inst → (p : List PathStep) → W i p) → Leaves table memory W (ctype_set table memory n i place o)
  classes_leaves n i place None is writes = tt
  classes_leaves n i place (Some inst) is writes =
      set_keeps table W memory i inst (record inst { cells = listed (all_number table n inst.ty) }) is
      (all_stays table (W i) inst (record inst { cells = listed (all_number table n inst.ty) }) (writes inst is) refl refl refl)

  both_leaves : (n : ℕ) (o q : Option ℕ) → object_from 8 0 memory ≡ o → AreFilled → Leaves table memory W (ctype_in table memory n o q)
  both_leaves n (Some i) (Some place) is filled =
      let there = object_there 8 memory i is in
      classes_leaves n i place (slice_get memory i) refl (λ inst at. filled i inst at (ap (λ (x : Instance). x.key) (some_one (sym at ∙ there.1)) ∙ there.2))
  both_leaves n None q is filled = tt
  both_leaves n (Some i) None is filled = tt

  makes_leaves : (row : Making) (key : ObjectKey) (fixed : Option TypeId) (args : List Value) (word : ℕ) → (row ≡ Classes → AreFilled) → Leaves table memory W (makes table memory row key fixed args word)
  makes_leaves Malloc key fixed args word filled = malloc_leaves key word (argument args 0)
  makes_leaves Calloc key fixed args word filled = calloc_leaves key word (argument args 0) (argument args 1)
  makes_leaves Realloc key fixed args word filled = realloc_leaves key fixed word (argument args 0) (argument args 1)
  makes_leaves Free key fixed args word filled = free_leaves (argument args 0)
  makes_leaves (Perhaps position) key fixed args word filled = perhaps_leaves position word
  makes_leaves (Object position) key fixed args word filled = element_leaves (object_from position 0 memory)
  makes_leaves (Place position) key fixed args word filled = of_object_leaves (object_from position 0 memory)
  makes_leaves Classes key fixed args word filled = both_leaves (word % 65536) (object_from 8 0 memory) (object_from 7 0 memory) refl (filled refl)

  -- ---- the rows over whole elements, over characters, and those that look at no object
  abbrev AreThrough : List ℕ → List Value → Type 0
  AreThrough looked args = (m : ℕ) → Contains looked m → IsThrough table memory W (argument args m)

  moves_leaves : (row : Elements) (result : Ctype) (args : List Value) (word : ℕ) → AreThrough (looked_at (Moves row)) args → Leaves table memory W (moves table memory row result args word)
  moves_leaves CopyBytes result args word through = copy_leaves table memory W (argument args 0) (argument args 1) (argument args 2) (through 0 (contains_at (0 ∷ 1 ∷ []) 0 0 refl))
  moves_leaves SetBytes result args word through = set_leaves table memory W (argument args 0) (argument args 1) (argument args 2) (through 0 (contains_at (0 ∷ []) 0 0 refl))
  moves_leaves Search result args word through = search_leaves table memory W word (argument args 0)
  moves_leaves Strtol result args word through = strtol_leaves table memory W result word (argument args 0) (argument args 1) (through 1 (contains_at (0 ∷ 1 ∷ []) 1 1 refl))
  moves_leaves Sort result args word through =
      sort_leaves table memory W word (argument args 0) (argument args 1) (argument args 2) (argument args 3) (through 0 (contains_at (0 ∷ []) 0 0 refl))
  moves_leaves Find result args word through = find_leaves table memory W word (argument args 0) (argument args 1) (argument args 2) (argument args 3) (argument args 4)

  spells_leaves : (row : Texts) (key : ObjectKey) (fixed : Option TypeId) (result : Ctype) (args : List Value) (word : ℕ) → AreThrough (looked_at (Writes row)) args → Leaves table memory W (spells table memory row key fixed result args word)
  spells_leaves Length key fixed result args word through = length_leaves table memory W result (argument args 0)
  spells_leaves Compare key fixed result args word through = compare_leaves table memory W result (argument args 0) (argument args 1)
  spells_leaves ComparePart key fixed result args word through = compare_part_leaves table memory W result (argument args 0) (argument args 1) (argument args 2)
  spells_leaves CopyText key fixed result args word through = copy_text_leaves table memory W (argument args 0) (argument args 1) (through 0 (contains_at (0 ∷ 1 ∷ []) 0 0 refl))
  spells_leaves AddText key fixed result args word through = add_text_leaves table memory W (argument args 0) (argument args 1) (through 0 (contains_at (0 ∷ 1 ∷ []) 0 0 refl))
  spells_leaves CopyPart key fixed result args word through = copy_part_leaves table memory W (argument args 0) (argument args 1) (argument args 2) (through 0 (contains_at (0 ∷ 1 ∷ []) 0 0 refl))
  spells_leaves Duplicate key fixed result args word through = duplicate_leaves table memory W key fixed word (argument args 0)
  spells_leaves Print key fixed result args word through = print_leaves table memory W result word (argument args 0) (through 0 (contains_at (0 ∷ []) 0 0 refl))
  spells_leaves PrintPart key fixed result args word through = print_part_leaves table memory W result word (argument args 0) (argument args 1) (through 0 (contains_at (0 ∷ []) 0 0 refl))
  spells_leaves Line key fixed result args word through = line_leaves table memory W word (argument args 0) (argument args 1) (through 0 (contains_at (0 ∷ []) 0 0 refl))
  spells_leaves Block key fixed result args word through = block_leaves table memory W result word (argument args 0) (argument args 1) (argument args 2) (through 0 (contains_at (0 ∷ []) 0 0 refl))

  keep_leaves : (result : Ctype) (a1 : Cell) → Leaves table memory W (keep_row memory result a1)
  keep_leaves result (Function key) = all
  keep_leaves result Null = tt
  keep_leaves result Unset = tt
  keep_leaves result (Number n) = tt
  keep_leaves result (Pointer i path past) = tt

  answers_leaves : (row : Plain) (result : Ctype) (args : List Value) (word : ℕ) → Leaves table memory W (answers memory row result args word)
  answers_leaves AnyNumber result args word = all
  answers_leaves Byte result args word = all
  answers_leaves (InClass class) result args word = all
  answers_leaves ToUpper result args word = all
  answers_leaves ToLower result args word = all
  answers_leaves Keep result args word = keep_leaves result (argument args 0)
  answers_leaves Exit result args word = all
  answers_leaves Abort result args word = all

  row_leaves : (o : Option Row) (key : ObjectKey) (fixed : Option TypeId) (result : Ctype) (args : List Value) (word : ℕ) → (o ≡ Some (Makes Classes) → AreFilled) → AreThrough (looked_in o) args → Leaves table memory W (row_effect table memory o key fixed result args word)
  row_leaves None key fixed result args word filled through = tt
  row_leaves (Some (Makes row)) key fixed result args word filled through = makes_leaves row key fixed args word (λ is. filled (ap (λ (r : Making). Some (Makes r)) is))
  row_leaves (Some (Moves row)) key fixed result args word filled through = moves_leaves row result args word through
  row_leaves (Some (Writes row)) key fixed result args word filled through = spells_leaves row key fixed result args word through
  row_leaves (Some (Answers row)) key fixed result args word filled through = answers_leaves row result args word

  -- A library function writes only in the arrays in which the arguments point through which it looks, and the table of
  -- classes.
  pub effect_leaves : (k : ℕ) (key : ObjectKey) (fixed : Option TypeId) (result : TypeId) (args : List Value) (word : ℕ) → (k ≡ 53 → AreFilled)
      → ((m : ℕ) → Contains (looked_by k) m → IsThrough table memory W (argument args m)) → Leaves table memory W (effect table memory k key fixed result args word)
  unfolding effect
  effect_leaves k key fixed result args word filled through =
      row_leaves (slice_get rows k) key fixed (type_of table result.0) args word
      (λ is. filled (let place : 0 + k ≡ 53 = one_place 0 rows k only_there is in omega arith)) through
