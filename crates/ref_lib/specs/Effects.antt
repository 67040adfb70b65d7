-- The effect of each library function, by its number.
use Rattle.std.specs.Prelude.{ℕ, List, [], ◌∷◌, Option, Some, None, Err, slice_get}
use Rattle.c_types.specs.declared.key.ObjectKey.{ObjectKey}
use Rattle.c_types.specs.declared.term.TypeId.{TypeId}
use Rattle.c_types.specs.Trees.{Ctype}
use Rattle.c_types.specs.Table.{Table, type_of}
use Rattle.ref_cells.specs.declared.cells.Reason.TheVariants.{Mismatch}
use Rattle.ref_cells.specs.declared.cells.Value.{Value}
use Rattle.ref_cells.specs.declared.instance.Instance.{Instance}
use Rattle.ref_elements.specs.Arguments.{argument}
use Rattle.ref_elements.specs.Outcomes.{Effect}
use Rattle.ref_copies.specs.Copies.{copy_row, set_row}
use Rattle.ref_copies.specs.Turns.{search_row, strtol_row, sort_row, find_row}
use Rattle.ref_texts.specs.Texts.{length_row, compare_row, compare_part_row, copy_text_row, add_text_row}
use Rattle.ref_texts.specs.Texts.{copy_part_row, duplicate_row, print_row, print_part_row, line_row, block_row}
use Rattle.ref_lib.specs.declared.ref_alloc.plain.Class.TheVariants.{Alpha, Digit, Alnum, Space, Upper, Lower}
use Rattle.ref_lib.specs.declared.rows.Making.{Making}
use Rattle.ref_lib.specs.declared.rows.Making.TheVariants.{Malloc, Calloc, Realloc, Free, Perhaps, Object, Place}
use Rattle.ref_lib.specs.declared.rows.Making.TheVariants.{Classes}
use Rattle.ref_lib.specs.declared.rows.Elements.{Elements}
use Rattle.ref_lib.specs.declared.rows.Elements.TheVariants.{CopyBytes, SetBytes, Search, Strtol, Sort, Find}
use Rattle.ref_lib.specs.declared.rows.Texts.{Texts}
use Rattle.ref_lib.specs.declared.rows.Texts.TheVariants.{Length, Compare, ComparePart, CopyText, AddText, CopyPart}
use Rattle.ref_lib.specs.declared.rows.Texts.TheVariants.{Duplicate, Print, PrintPart, Line, Block}
use Rattle.ref_lib.specs.declared.rows.Plain.{Plain}
use Rattle.ref_lib.specs.declared.rows.Plain.TheVariants.{AnyNumber, Byte, InClass, ToUpper, ToLower, Keep, Exit}
use Rattle.ref_lib.specs.declared.rows.Plain.TheVariants.{Abort}
use Rattle.ref_lib.specs.declared.rows.Row.{Row}
use Rattle.ref_lib.specs.declared.rows.Row.TheVariants.{Makes, Moves, Writes, Answers}
use Rattle.ref_lib.specs.ref_alloc.Plain.{number_row, byte_row, class_row, upper_row, lower_row, keep_row, exit_row}
use Rattle.ref_lib.specs.ref_alloc.Plain.{abort_row}
use Rattle.ref_lib.specs.ref_alloc.Allocation.{malloc_row, calloc_row, realloc_row, free_row, object_row}
use Rattle.ref_lib.specs.ref_alloc.Allocation.{perhaps_row, place_row, ctype_row}

abbrev pub any_number : Row
any_number = Answers AnyNumber

-- the functions in the order of their numbers
unfoldable pub rows : List Row
rows =
    -- malloc, calloc, realloc, free, memcpy, memmove, memset, strcpy, strcat, strncpy
    Makes Malloc ∷ Makes Calloc ∷ Makes Realloc ∷ Makes Free ∷ Moves CopyBytes ∷ Moves CopyBytes
    ∷ Moves SetBytes ∷ Writes CopyText
    ∷ Writes AddText ∷ Writes CopyPart
    -- strchr, strrchr, strstr, memchr, strtol, qsort, bsearch, strlen, strcmp, strncmp, memcmp, strdup, getenv,
    -- strerror
    ∷ Moves Search ∷ Moves Search ∷ Moves Search ∷ Moves Search ∷ Moves Strtol ∷ Moves Sort ∷ Moves Find
    ∷ Writes Length ∷ Writes Compare
    ∷ Writes ComparePart ∷ any_number ∷ Writes Duplicate ∷ Makes (Perhaps 0) ∷ Makes (Object 1)
    -- atexit, exit, abort, printf, fprintf, sprintf, snprintf, puts, putchar, fputs, fputc, fopen, fclose, fgets
    ∷ Answers Keep ∷ Answers Exit ∷ Answers Abort ∷ any_number ∷ any_number ∷ Writes Print
    ∷ Writes PrintPart
    ∷ any_number ∷ any_number ∷ any_number ∷ any_number
    ∷ Makes (Perhaps 2) ∷ any_number ∷ Writes Line
    -- fgetc, getchar, fread, fwrite, fflush, isalpha, isdigit, isalnum, isspace, isupper, islower, toupper, tolower
    ∷ Answers Byte ∷ Answers Byte ∷ Writes Block ∷ any_number ∷ any_number ∷ Answers (InClass Alpha)
    ∷ Answers (InClass Digit)
    ∷ Answers (InClass Alnum) ∷ Answers (InClass Space) ∷ Answers (InClass Upper) ∷ Answers (InClass Lower)
    ∷ Answers ToUpper
    ∷ Answers ToLower
    -- atoi, __errno_location, __ctype_b_loc, __assert_fail
    ∷ any_number ∷ Makes (Place 6) ∷ Makes Classes ∷ Answers Abort ∷ []

-- The effect of a row: the object that the call makes, with its element type where that is fixed, the result's
-- type, the arguments and the word. First the rows that make objects, end them or name one of the library's.
abbrev pub makes : Table → List Instance → Making → ObjectKey → Option TypeId → List Value → ℕ → Effect
makes table memory Malloc key fixed args word = malloc_row memory key word (argument args 0)
makes table memory Calloc key fixed args word = calloc_row memory key word (argument args 0) (argument args 1)
makes table memory Realloc key fixed args word =
    realloc_row table memory key fixed word (argument args 0) (argument args 1)
makes table memory Free key fixed args word = free_row memory (argument args 0)
makes table memory (Perhaps position) key fixed args word = perhaps_row position memory word
makes table memory (Object position) key fixed args word = object_row position memory
makes table memory (Place position) key fixed args word = place_row position memory
makes table memory Classes key fixed args word = ctype_row table memory word

-- the rows over whole elements
abbrev pub moves : Table → List Instance → Elements → Ctype → List Value → ℕ → Effect
moves table memory CopyBytes result args word =
    copy_row table memory (argument args 0) (argument args 1) (argument args 2)
moves table memory SetBytes result args word =
    set_row table memory (argument args 0) (argument args 1) (argument args 2)
moves table memory Search result args word = search_row table memory word (argument args 0)
moves table memory Strtol result args word = strtol_row table memory result word (argument args 0) (argument args 1)
moves table memory Sort result args word =
    sort_row table memory word (argument args 0) (argument args 1) (argument args 2) (argument args 3)
moves table memory Find result args word =
    find_row table memory word (argument args 0) (argument args 1) (argument args 2) (argument args 3)
    (argument args 4)

-- the rows over characters
abbrev pub spells : Table → List Instance → Texts → ObjectKey → Option TypeId → Ctype → List Value → ℕ → Effect
spells table memory Length key fixed result args word = length_row table memory result (argument args 0)
spells table memory Compare key fixed result args word =
    compare_row table memory result (argument args 0) (argument args 1)
spells table memory ComparePart key fixed result args word =
    compare_part_row table memory result (argument args 0) (argument args 1) (argument args 2)
spells table memory CopyText key fixed result args word =
    copy_text_row table memory (argument args 0) (argument args 1)
spells table memory AddText key fixed result args word =
    add_text_row table memory (argument args 0) (argument args 1)
spells table memory CopyPart key fixed result args word =
    copy_part_row table memory (argument args 0) (argument args 1) (argument args 2)
spells table memory Duplicate key fixed result args word =
    duplicate_row table memory key fixed word (argument args 0)
spells table memory Print key fixed result args word = print_row table memory result word (argument args 0)
spells table memory PrintPart key fixed result args word =
    print_part_row table memory result word (argument args 0) (argument args 1)
spells table memory Line key fixed result args word = line_row table memory word (argument args 0) (argument args 1)
spells table memory Block key fixed result args word =
    block_row table memory result word (argument args 0) (argument args 1) (argument args 2)

-- the rows that look at no object
abbrev pub answers : List Instance → Plain → Ctype → List Value → ℕ → Effect
answers memory AnyNumber result args word = number_row memory result word
answers memory Byte result args word = byte_row memory result word
answers memory (InClass class) result args word = class_row class memory result (argument args 0)
answers memory ToUpper result args word = upper_row memory result (argument args 0)
answers memory ToLower result args word = lower_row memory result (argument args 0)
answers memory Keep result args word = keep_row memory result (argument args 0)
answers memory Exit result args word = exit_row memory (argument args 0)
answers memory Abort result args word = abort_row memory

abbrev pub row_effect : Table
    → List Instance
    → Option Row
    → ObjectKey
    → Option TypeId
    → Ctype
    → List Value
    → ℕ
    → Effect
row_effect table memory None key fixed result args word = Err Mismatch
row_effect table memory (Some (Makes row)) key fixed result args word = makes table memory row key fixed args word
row_effect table memory (Some (Moves row)) key fixed result args word = moves table memory row result args word
row_effect table memory
    (Some (Writes row)) key fixed result args word = spells table memory row key fixed result args word
row_effect table memory (Some (Answers row)) key fixed result args word = answers memory row result args word

-- the effect of the library function of a number
unfoldable pub effect : Table → List Instance → ℕ → ObjectKey → Option TypeId → TypeId → List Value → ℕ → Effect
effect table memory function key fixed result args word =
    row_effect table memory (slice_get rows function) key fixed (type_of table result.0) args word
