-- What library functions leave.
use Rattle.std.proofs.Common.{ℕ, List, Option, Some, None, length}
use Rattle.std.specs.List.{slice_get}
use Rattle.c_types.specs.declared.key.ObjectKey.{ObjectKey}
use Rattle.c_types.specs.declared.term.TypeId.{TypeId}
use Rattle.c_types.specs.Trees.{Ctype}
use Rattle.c_types.specs.Table.{Table, type_of}
use Rattle.c_types.specs.Made.{AreNamed, IsMade}
use Rattle.ref_cells.specs.declared.cells.Cell.{Cell}
use Rattle.ref_cells.specs.declared.cells.Cell.TheVariants.{Null, Function}
use Rattle.ref_cells.specs.declared.cells.Value.{Value}
use Rattle.ref_cells.specs.declared.instance.Instance.{Instance}
use Rattle.ref_cells.specs.Places.{IsKnown, AreKnown}
use Rattle.ref_elements.specs.Arguments.{argument}
use Rattle.ref_lib.specs.ref_alloc.Plain.{keep_row}
use Rattle.ref_lib.specs.declared.rows.Making.{Making}
use Rattle.ref_lib.specs.declared.rows.Making.TheVariants.{Malloc, Calloc, Realloc, Free, Perhaps, Object, Place, Classes}
use Rattle.ref_lib.specs.declared.rows.Elements.{Elements}
use Rattle.ref_lib.specs.declared.rows.Elements.TheVariants.{CopyBytes, SetBytes, Search, Strtol, Sort, Find}
use Rattle.ref_lib.specs.declared.rows.Texts.{Texts}
use Rattle.ref_lib.specs.declared.rows.Texts.TheVariants.{Length, Compare, ComparePart, CopyText, AddText, CopyPart, Duplicate, Print, PrintPart, Line, Block}
use Rattle.ref_lib.specs.declared.rows.Plain.{Plain}
use Rattle.ref_lib.specs.declared.rows.Plain.TheVariants.{AnyNumber, Byte, InClass, ToUpper, ToLower, Keep, Exit, Abort}
use Rattle.ref_lib.specs.declared.rows.Row.{Row}
use Rattle.ref_lib.specs.declared.rows.Row.TheVariants.{Makes, Moves, Writes, Answers}
use Rattle.ref_lib.specs.Effects.{rows, makes, moves, spells, answers, row_effect, effect}
use Rattle.ref_lib.specs.memory_laws.Ends.{ended_by}
use Rattle.ref_lib.proofs.memory_laws.Follow.{same}
use Rattle.ref_lib.proofs.memory_laws.Steps.{Leaves}
use Rattle.ref_lib.proofs.memory_laws.Copies.{copy_leaves, set_leaves, search_leaves, strtol_leaves, sort_leaves, find_leaves}
use Rattle.ref_lib.proofs.memory_laws.Texts.{length_leaves, compare_leaves, compare_part_leaves, copy_text_leaves, add_text_leaves, copy_part_leaves, duplicate_leaves, print_leaves, print_part_leaves, line_leaves, block_leaves}
use Rattle.ref_lib.proofs.memory_laws.Allocation.{LeavesBut, malloc_leaves, calloc_leaves, free_leaves, realloc_leaves, object_leaves, perhaps_leaves, place_leaves, ctype_leaves}

module _ (table : Table) (named : AreNamed table) (made : IsMade table) (memory : List Instance) (known : AreKnown (length table.terms) memory) where
  makes_leaves : (row : Making) (key : ObjectKey) (fixed : Option TypeId) (args : List Value) (word : ℕ) →
      LeavesBut table (ended_by memory (Some (Makes row)) args word) memory (makes table memory row key fixed args word)
  makes_leaves Malloc key fixed args word = malloc_leaves table memory known key word (argument args 0)
  makes_leaves Calloc key fixed args word = calloc_leaves table memory known key word (argument args 0) (argument args 1)
  makes_leaves Realloc key fixed args word = realloc_leaves table memory known key fixed word (argument args 0) (argument args 1)
  makes_leaves Free key fixed args word = free_leaves table memory known (argument args 0)
  makes_leaves (Perhaps position) key fixed args word = perhaps_leaves table memory known position word
  makes_leaves (Object position) key fixed args word = object_leaves table memory known position
  makes_leaves (Place position) key fixed args word = place_leaves table memory known position
  makes_leaves Classes key fixed args word = ctype_leaves table memory known word

  moves_leaves : (row : Elements) (result : Ctype) (args : List Value) (word : ℕ) → Leaves table memory (moves table memory row result args word)
  moves_leaves CopyBytes result args word = copy_leaves table named made memory known (argument args 0) (argument args 1) (argument args 2)
  moves_leaves SetBytes result args word = set_leaves table named made memory known (argument args 0) (argument args 1) (argument args 2)
  moves_leaves Search result args word = search_leaves table named made memory known word (argument args 0)
  moves_leaves Strtol result args word = strtol_leaves table named made memory known result word (argument args 0) (argument args 1)
  moves_leaves Sort result args word = sort_leaves table named made memory known word (argument args 0) (argument args 1) (argument args 2) (argument args 3)
  moves_leaves Find result args word =
      find_leaves table named made memory known word (argument args 0) (argument args 1) (argument args 2) (argument args 3) (argument args 4)

  spells_leaves : (row : Texts) (key : ObjectKey) (fixed : Option TypeId) (result : Ctype) (args : List Value) (word : ℕ) → IsKnown (length table.terms) fixed →
      Leaves table memory (spells table memory row key fixed result args word)
  spells_leaves Length key fixed result args word h = length_leaves table memory known result (argument args 0)
  spells_leaves Compare key fixed result args word h = compare_leaves table memory known result (argument args 0) (argument args 1)
  spells_leaves ComparePart key fixed result args word h = compare_part_leaves table memory known result (argument args 0) (argument args 1) (argument args 2)
  spells_leaves CopyText key fixed result args word h = copy_text_leaves table memory known (argument args 0) (argument args 1)
  spells_leaves AddText key fixed result args word h = add_text_leaves table memory known (argument args 0) (argument args 1)
  spells_leaves CopyPart key fixed result args word h = copy_part_leaves table memory known (argument args 0) (argument args 1) (argument args 2)
  spells_leaves Duplicate key fixed result args word h = duplicate_leaves table memory known key fixed word (argument args 0) h
  spells_leaves Print key fixed result args word h = print_leaves table memory known result word (argument args 0)
  spells_leaves PrintPart key fixed result args word h = print_part_leaves table memory known result word (argument args 0) (argument args 1)
  spells_leaves Line key fixed result args word h = line_leaves table memory known word (argument args 0) (argument args 1)
  spells_leaves Block key fixed result args word h = block_leaves table memory known result word (argument args 0) (argument args 1) (argument args 2)

  keep_leaves : (result : Ctype) (a1 : Cell) → Leaves table memory (keep_row memory result a1)
  keep_leaves result Null = tt
  keep_leaves result (Function key) = same (length table.terms) memory known
  keep_leaves result a1 = tt

  answers_leaves : (row : Plain) (result : Ctype) (args : List Value) (word : ℕ) → Leaves table memory (answers memory row result args word)
  answers_leaves Keep result args word = keep_leaves result (argument args 0)
  answers_leaves AnyNumber result args word = same (length table.terms) memory known
  answers_leaves Byte result args word = same (length table.terms) memory known
  answers_leaves (InClass class) result args word = same (length table.terms) memory known
  answers_leaves ToUpper result args word = same (length table.terms) memory known
  answers_leaves ToLower result args word = same (length table.terms) memory known
  answers_leaves Exit result args word = same (length table.terms) memory known
  answers_leaves Abort result args word = same (length table.terms) memory known

  row_leaves : (o : Option Row) (key : ObjectKey) (fixed : Option TypeId) (result : Ctype) (args : List Value) (word : ℕ) → IsKnown (length table.terms) fixed →
      LeavesBut table (ended_by memory o args word) memory (row_effect table memory o key fixed result args word)
  row_leaves None key fixed result args word h = tt
  row_leaves (Some (Makes row)) key fixed result args word h = makes_leaves row key fixed args word
  row_leaves (Some (Moves row)) key fixed result args word h = moves_leaves row result args word
  row_leaves (Some (Writes row)) key fixed result args word h = spells_leaves row key fixed result args word h
  row_leaves (Some (Answers row)) key fixed result args word h = answers_leaves row result args word

  pub effect_leaves : (function : ℕ) (key : ObjectKey) (fixed : Option TypeId) (result : TypeId) (args : List Value) (word : ℕ) → IsKnown (length table.terms) fixed →
      LeavesBut table (ended_by memory (slice_get rows function) args word) memory (effect table memory function key fixed result args word)
  unfolding effect
  effect_leaves function key fixed result args word h = row_leaves (slice_get rows function) key fixed (type_of table result.0) args word h
