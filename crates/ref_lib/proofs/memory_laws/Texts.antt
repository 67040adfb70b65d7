-- What the rows over characters leave.
use Rattle.std.proofs.Common.{ℕ, ◌-◌, false, List, Option, None, length, take, refl}
use Rattle.std.specs.Prelude.{ℤ, pos, ◌==◌}
use Rattle.c_types.specs.declared.key.ObjectKey.{ObjectKey}
use Rattle.c_types.specs.declared.term.TypeId.{TypeId}
use Rattle.c_types.specs.Trees.{Ctype}
use Rattle.c_types.specs.Table.{Table}
use Rattle.ref_cells.specs.declared.cells.Cell.{Cell}
use Rattle.ref_cells.specs.declared.cells.Cell.TheVariants.{Pointer}
use Rattle.ref_cells.specs.declared.cells.Value.{Value}
use Rattle.ref_cells.specs.declared.instance.Instance.{Instance}
use Rattle.ref_cells.specs.Places.{IsKnown, AreKnown}
use Rattle.ref_mem.specs.Reads.{one_cell}
use Rattle.ref_mem.specs.Writes.{with_parts}
use Rattle.ref_elements.specs.Arguments.{count_of}
use Rattle.ref_elements.specs.Outcomes.{gives, null_value, number_value}
use Rattle.ref_elements.specs.Objects.{is_odd}
use Rattle.ref_elements.specs.Parts.{Parts}
use Rattle.ref_texts.specs.Reading.{text_at, part_at, compared_at, compared_part}
use Rattle.ref_texts.specs.Writing.{text_parts, with_text, writes, closed, filled_up, text_of}
use Rattle.ref_texts.specs.Texts.{length_row, compare_row, compare_part_row, copy_text_row, add_text_row, copy_part_row, duplicated, duplicate_row, print_row, print_part_row, line_row, block_of, blocks_in, block_row}
use Rattle.ref_lib.specs.memory_laws.Kept.{Follows}
use Rattle.ref_lib.proofs.memory_laws.Follow.{later_same, same, with_more, with_change}
use Rattle.ref_lib.proofs.memory_laws.Steps.{after_any, either, Leaves}

module _ (table : Table) (memory : List Instance) (known : AreKnown (length table.terms) memory) where
  stays : Follows (length table.terms) None memory memory
  stays = same (length table.terms) memory known

  text_follows : (place : Cell) (parts : Parts) → Follows (length table.terms) None memory (with_text table memory place parts)
  text_follows (Pointer i path past) parts =
      with_change (length table.terms) None memory i (with_parts table parts) known (λ j ne. refl)
      (λ a. record { key = refl; bytes = refl; typed = λ t e. e; live = (later_same false a refl).live }) (λ a h. h)
  text_follows place parts = stays

  writes_leaves : (place : Cell) (k : ℕ) (text : List ℤ) (value : Value) → Leaves table memory (writes table memory place k text value)
  writes_leaves place k text value = after_any (text_parts table memory place k text) _ _ (λ parts. text_follows place parts)

  -- strlen
  pub length_leaves : (result : Ctype) (a1 : Cell) → Leaves table memory (length_row table memory result a1)
  length_leaves result a1 = after_any (text_at table memory a1) _ _ (λ text. stays)

  -- strcmp
  pub compare_leaves : (result : Ctype) (a1 a2 : Cell) → Leaves table memory (compare_row table memory result a1 a2)
  compare_leaves result a1 a2 = after_any (compared_at table memory a1 a2) _ _ (λ n. stays)

  -- strncmp
  pub compare_part_leaves : (result : Ctype) (a1 a2 a3 : Cell) → Leaves table memory (compare_part_row table memory result a1 a2 a3)
  compare_part_leaves result a1 a2 a3 = after_any (compared_part table memory a1 a2 (count_of a3)) _ _ (λ n. stays)

  -- strcpy
  pub copy_text_leaves : (a1 a2 : Cell) → Leaves table memory (copy_text_row table memory a1 a2)
  copy_text_leaves a1 a2 = after_any (text_at table memory a2) _ _ (λ text. writes_leaves a1 0 (closed text) (one_cell a1))

  -- strcat
  pub add_text_leaves : (a1 a2 : Cell) → Leaves table memory (add_text_row table memory a1 a2)
  add_text_leaves a1 a2 =
      after_any (text_at table memory a1) _ _ (λ front. after_any (text_at table memory a2) _ _ (λ text. writes_leaves a1 (length front) (closed text) (one_cell a1)))

  -- strncpy
  pub copy_part_leaves : (a1 a2 a3 : Cell) → Leaves table memory (copy_part_row table memory a1 a2 a3)
  copy_part_leaves a1 a2 a3 = after_any (part_at table memory a2 (count_of a3)) _ _ (λ text. writes_leaves a1 0 (filled_up (count_of a3) text) (one_cell a1))

  -- strdup
  pub duplicate_leaves : (key : ObjectKey) (fixed : Option TypeId) (word : ℕ) (a1 : Cell) → IsKnown (length table.terms) fixed → Leaves table memory (duplicate_row table memory key fixed word a1)
  duplicate_leaves key fixed word a1 h =
      either (is_odd word) (gives memory null_value) (duplicated table memory key fixed a1) _ stays
      (after_any (text_at table memory a1) _ _ (λ text. with_more (length table.terms) memory _ known h))

  -- sprintf
  pub print_leaves : (result : Ctype) (word : ℕ) (a1 : Cell) → Leaves table memory (print_row table memory result word a1)
  print_leaves result word a1 = writes_leaves a1 0 (closed (text_of word)) (number_value result (pos word))

  -- snprintf
  pub print_part_leaves : (result : Ctype) (word : ℕ) (a1 a2 : Cell) → Leaves table memory (print_part_row table memory result word a1 a2)
  print_part_leaves result word a1 a2 =
      either (count_of a2 == 0) (gives memory (number_value result (pos word))) _ _ stays
      (writes_leaves a1 0 (closed (take (count_of a2 - 1) (text_of word))) (number_value result (pos word)))

  -- fgets
  pub line_leaves : (word : ℕ) (a1 a2 : Cell) → Leaves table memory (line_row table memory word a1 a2)
  line_leaves word a1 a2 =
      either (word == 0) (gives memory null_value) _ _ stays (writes_leaves a1 0 (closed (take (count_of a2 - 1) (text_of word))) (one_cell a1))

  -- fread
  pub block_leaves : (result : Ctype) (word : ℕ) (a1 a2 a3 : Cell) → Leaves table memory (block_row table memory result word a1 a2 a3)
  block_leaves result word a1 a2 a3 =
      writes_leaves a1 0 (block_of word (count_of a2) (count_of a3))
      (number_value result (pos (blocks_in (count_of a2) (block_of word (count_of a2) (count_of a3)))))
