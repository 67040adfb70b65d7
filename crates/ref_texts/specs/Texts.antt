-- The rows that read and write characters, one by one (C11 7.21.6, 7.21.7, 7.24).
use Rattle.std.specs.Prelude.{ℕ, ◌+◌, ◌-◌, ◌*◌, ◌/◌, ◌%◌, ◌^◌, ◌==◌, take, length, ℤ, pos, false, if◌then◌else◌}
use Rattle.std.specs.Prelude.{List, Option}
use Rattle.c_types.specs.declared.key.ObjectKey.{ObjectKey}
use Rattle.c_types.specs.declared.term.TypeId.{TypeId}
use Rattle.c_types.specs.Trees.{Ctype}
use Rattle.c_types.specs.Table.{Table}
use Rattle.ref_cells.specs.declared.cells.Cell.{Cell}
use Rattle.ref_cells.specs.declared.instance.Instance.{Instance}
use Rattle.ref_mem.specs.Reads.{one_cell}
use Rattle.ref_elements.specs.Arguments.{count_of}
use Rattle.ref_elements.specs.Outcomes.{Effect, gives, null_value, number_value, start_value}
use Rattle.ref_elements.specs.Objects.{is_odd, with_new}
use Rattle.ref_elements.specs.Runs.{◌>>=◌}
use Rattle.ref_texts.specs.Reading.{text_at, part_at, compared_at, compared_part}
use Rattle.ref_texts.specs.Writing.{writes, closed, filled_up, text_cells, text_of}

-- strlen: the number of characters before the zero
abbrev pub length_row : Table → List Instance → Ctype → Cell → Effect
length_row table memory result a1 =
    text_at table memory a1 >>= λ text. gives memory (number_value result (pos (length text)))

-- strcmp: -1, 0 or 1
abbrev pub compare_row : Table → List Instance → Ctype → Cell → Cell → Effect
compare_row table memory result a1 a2 = compared_at table memory a1 a2 >>= λ n. gives memory (number_value result n)

-- strncmp: the same over a3 characters
abbrev pub compare_part_row : Table → List Instance → Ctype → Cell → Cell → Cell → Effect
compare_part_row table memory result a1 a2 a3 =
    compared_part table memory a1 a2 (count_of a3) >>= λ n. gives memory (number_value result n)

-- strcpy: a2's text with its zero at a1
abbrev pub copy_text_row : Table → List Instance → Cell → Cell → Effect
copy_text_row table memory a1 a2 =
    text_at table memory a2 >>= λ text. writes table memory a1 0 (closed text) (one_cell a1)

-- strcat: the same from a1's zero on
abbrev pub add_text_row : Table → List Instance → Cell → Cell → Effect
add_text_row table memory a1 a2 =
    text_at table memory a1 >>= λ front. text_at table memory a2
    >>= λ text. writes table memory a1 (length front) (closed text) (one_cell a1)

-- strncpy: a3 characters, zeros behind a2's text
abbrev pub copy_part_row : Table → List Instance → Cell → Cell → Cell → Effect
copy_part_row table memory a1 a2 a3 =
    part_at table memory a2 (count_of a3) >>= λ text. writes table memory a1 0
    (filled_up (count_of a3) text)
    (one_cell a1)

-- a new object with a1's text
abbrev pub duplicated : Table → List Instance → ObjectKey → Option TypeId → Cell → Effect
duplicated table memory key fixed a1 =
    text_at table memory a1
    >>= λ text. gives (with_new memory key fixed (length text + 1) false (text_cells 0 (closed text)))
    (start_value (length memory))

-- strdup: that, or null
abbrev pub duplicate_row : Table → List Instance → ObjectKey → Option TypeId → ℕ → Cell → Effect
duplicate_row table memory key fixed word a1 =
    if is_odd word then gives memory null_value else duplicated table memory key fixed a1

-- sprintf: the word's text at a1; its number
abbrev pub print_row : Table → List Instance → Ctype → ℕ → Cell → Effect
print_row table memory result word a1 =
    writes table memory a1 0 (closed (text_of word)) (number_value result (pos word))

-- snprintf: the same of at most a2 - 1 characters, where a2 isn't 0
abbrev pub print_part_row : Table → List Instance → Ctype → ℕ → Cell → Cell → Effect
print_part_row table memory result word a1 a2 =
    if count_of a2 == 0 then gives memory (number_value result (pos word))
    else writes table memory a1 0 (closed (take (count_of a2 - 1) (text_of word))) (number_value result (pos word))

-- fgets: null for the word 0, else its text of at most a2 - 1 characters at a1, which it gives
abbrev pub line_row : Table → List Instance → ℕ → Cell → Cell → Effect
line_row table memory word a1 a2 =
    if word == 0 then gives memory null_value
    else writes table memory a1 0 (closed (take (count_of a2 - 1) (text_of word))) (one_cell a1)

-- the word's text without its zero, at most so many elements of a size
abbrev pub block_of : ℕ → ℕ → ℕ → List ℤ
block_of word size count = take ((size * count) % 2 ^ 64) (text_of word)

-- how many elements of a size that is, none of size 0
abbrev pub blocks_in : ℕ → List ℤ → ℕ
blocks_in size text = if size == 0 then 0 else length text / size

-- fread: that text at a1; how many elements of a2 bytes it is
abbrev pub block_row : Table → List Instance → Ctype → ℕ → Cell → Cell → Cell → Effect
block_row table memory result word a1 a2 a3 =
    writes table memory a1 0 (block_of word (count_of a2) (count_of a3))
    (number_value result (pos (blocks_in (count_of a2) (block_of word (count_of a2) (count_of a3)))))
