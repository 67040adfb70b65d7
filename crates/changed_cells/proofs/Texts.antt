-- What the library's functions over characters leave of memory.
use Rattle.std.proofs.Common.{arith, ◌≡◌, inl, inr, ℕ, zero, suc, ◌+◌, ◌-◌, ◌==◌, ℤ, pos, Bool, true, false, List, [], ◌∷◌, ◌++◌, length, take, Option, Some, None, Result, Ok, Err, slice_get, if◌then◌else◌, refl, sym, ap, subst}
use Rattle.c_types.specs.declared.key.ObjectKey.{ObjectKey}
use Rattle.c_types.specs.declared.term.PathStep.{PathStep}
use Rattle.c_types.specs.declared.term.PathStep.TheVariants.{Index, Member}
use Rattle.c_types.specs.declared.term.TypeId.{TypeId}
use Rattle.c_types.specs.Trees.{Ctype}
use Rattle.c_types.specs.Table.{Table}
use Rattle.type_rules.specs.Kinds.{character}
use Rattle.ref_cells.specs.declared.cells.Reason.{Reason}
use Rattle.ref_cells.specs.declared.cells.Cell.{Cell}
use Rattle.ref_cells.specs.declared.cells.Cell.TheVariants.{Unset, Number, Null, Pointer, Function}
use Rattle.ref_cells.specs.declared.cells.Value.{Value}
use Rattle.ref_cells.specs.declared.instance.Instance.{Instance}
use Rattle.ref_cells.specs.Cells.{CellList}
use Rattle.ref_cells.specs.Places.{reach}
use Rattle.ref_mem.specs.Reads.{one_cell}
use Rattle.ref_mem.specs.Writes.{part_in, part_found, character_part}
use Rattle.ref_elements.specs.Arguments.{count_of}
use Rattle.ref_elements.specs.Objects.{is_odd, with_new}
use Rattle.ref_elements.specs.Outcomes.{gives, null_value, number_value}
use Rattle.ref_elements.specs.Parts.{Parts}
use Rattle.ref_texts.specs.Reading.{later_as, later, later_place, place_at, text_at, part_at, compared_at, compared_part}
use Rattle.ref_texts.specs.Texts.{length_row, compare_row, compare_part_row, copy_text_row, add_text_row, copy_part_row, duplicated, duplicate_row, print_row, print_part_row, line_row, block_of, blocks_in, block_row}
use Rattle.ref_texts.specs.Writing.{push_text, text_parts, with_text, writes, closed, filled_up, text_cells, text_of}
use Rattle.ref_lib.proofs.memory_laws.Steps.{after_any, either}
use Rattle.covered_runs.specs.touched_runs.called_frames.Layers.{AreBeside}
use Rattle.changed_cells.proofs.Kept.{Keeps, keeps_all, same_keeps, more_same}
use Rattle.changed_cells.proofs.Values.{with_it}
use Rattle.changed_cells.proofs.Elements.{AreBesideAll, Leaves, IsThrough, put_keep}

some_one : {X : Type 0} → {x y : X} → ◌≡◌ {A = Option X} (Some x) (Some y) → x ≡ y
some_one h = cc

none_some : {X : Type 0} → {x : X} → ◌≡◌ {A = Option X} None (Some x) → ⊥
none_some h = cc

ok_one : {X : Type 0} → {x y : X} → ◌≡◌ {A = Result X Reason} (Ok x) (Ok y) → x ≡ y
ok_one h = cc

err_ok : {X : Type 0} → {r : Reason} → {x : X} → ◌≡◌ {A = Result X Reason} (Err r) (Ok x) → ⊥
err_ok h = cc

-- ---- the places of characters stand beside one another
alone : (s t : PathStep) (rest : List PathStep) → length (s ∷ t ∷ rest) ≡ 1 → ⊥
alone s t rest e = (let long : length (s ∷ t ∷ rest) ≡ suc (suc (length rest)) = refl in omega arith)

last_at : (path : List PathStep) (m j : ℕ) → slice_get path m ≡ Some (Index j) → length path ≡ suc m → path ≡ take m path ++ Index j ∷ []
last_at [] m j e l = absurd (none_some e)
last_at (s ∷ []) zero j e l = ap (λ (x : PathStep). x ∷ []) (some_one e)
last_at (s ∷ t ∷ rest) zero j e l = absurd (alone s t rest l)
last_at (s ∷ rest) (suc m) j e l =
    let long : length (s ∷ rest) ≡ suc (length rest) = refl in
    ap (λ (xs : List PathStep). s ∷ xs) (last_at rest m j e (omega arith))

last_is : (path : List PathStep) (j : ℕ) → slice_get path (length path - 1) ≡ Some (Index j) → path ≡ take (length path - 1) path ++ Index j ∷ []
last_is [] j e = absurd (none_some e)
last_is (s ∷ rest) j e =
    let long : length (s ∷ rest) ≡ suc (length rest) = refl in
    last_at (s ∷ rest) (length (s ∷ rest) - 1) j e (omega arith)

later_beside : (path : List PathStep) (k : ℕ) (o : Option PathStep) → slice_get path (length path - 1) ≡ o → (q : List PathStep) → later_as (take (length path - 1) path) o k ≡ Some q → AreBeside q path
later_beside path k None is q e = absurd (none_some e)
later_beside path k (Some (Member m)) is q e = absurd (none_some e)
later_beside path k (Some (Index j)) is q e = inr (take (length path - 1) path, j + k, j, sym (some_one e), last_is path j is)

module _ (table : Table) (memory : List Instance) (W : ℕ → List PathStep → Type 0) where
  all : Keeps table W memory memory
  all = keeps_all table W memory

  part_path : (o : Option Instance) (path : List PathStep) (found : Ctype) (c : ℤ) (part : List PathStep × CellList) → part_in table o path found c ≡ Ok part → part.0 ≡ path
  part_path None path found c part e = absurd (err_ok e)
  part_path (Some inst) path found c part e = ap (λ (x : List PathStep × CellList). x.0) (sym (ok_one e))

  found_path : (i : ℕ) (path : List PathStep) (past : Bool) (c : ℤ) (r : Result Ctype Reason) (part : List PathStep × CellList) → part_found table memory (Pointer i path past) c r ≡ Ok part → part.0 ≡ path
  found_path i path past c (Err reason) part e = absurd (err_ok e)
  found_path i path past c (Ok found) part e = part_path (slice_get memory i) path found c part e

  character_path : (i : ℕ) (path : List PathStep) (past : Bool) (c : ℤ) (part : List PathStep × CellList) → character_part table memory (Pointer i path past) c ≡ Ok part → part.0 ≡ path
  unfolding character_part
  character_path i path past c part e = found_path i path past c (reach table memory (Pointer i path past) character) part e

  character_beside : (i : ℕ) (path : List PathStep) (past : Bool) (k : ℕ) (c : ℤ) (part : List PathStep × CellList) → character_part table memory (place_at (Pointer i path past) k) c ≡ Ok part → AreBeside part.0 path
  character_beside i path past k c part e = by (later path k) refl e
    where
      by : (o : Option (List PathStep)) → later path k ≡ o → character_part table memory (later_place i path past k o) c ≡ Ok part → AreBeside part.0 path
      by None is f = inl (character_path i path (if k == 0 then past else true) c part f)
      by (Some q) is f =
          subst (λ (p : List PathStep). AreBeside p path) (sym (character_path i q past c part f)) (later_beside path k (slice_get path (length path - 1)) refl q is)

  text_beside : (i : ℕ) (path : List PathStep) (past : Bool) (k : ℕ) (text : List ℤ) (parts : Parts) → text_parts table memory (Pointer i path past) k text ≡ Ok parts → AreBesideAll path parts
  text_beside i path past k [] parts e = subst (AreBesideAll path) (ok_one e) tt
  text_beside i path past k (c ∷ text) parts e =
      by (character_part table memory (place_at (Pointer i path past) k) c) refl (text_parts table memory (Pointer i path past) (k + 1) text) refl e (λ rest f. text_beside i path past (k + 1) text rest f)
    where
      by : (a : Result (List PathStep × CellList) Reason) → character_part table memory (place_at (Pointer i path past) k) c ≡ a → (r : Result Parts Reason) → text_parts table memory (Pointer i path past) (k + 1) text ≡ r → push_text a r ≡ Ok parts
          → ((rest : Parts) → text_parts table memory (Pointer i path past) (k + 1) text ≡ Ok rest → AreBesideAll path rest) → AreBesideAll path parts
      by (Err reason) a_is r r_is f next = absurd (err_ok f)
      by (Ok part) a_is (Err reason) r_is f next = absurd (err_ok f)
      by (Ok part) a_is (Ok rest) r_is f next = subst (AreBesideAll path) (ok_one f) (character_beside i path past k c part a_is, next rest r_is)

  -- a text that is written
  text_keeps : (a : Cell) (k : ℕ) (text : List ℤ) (parts : Parts) → IsThrough table memory W a → text_parts table memory a k text ≡ Ok parts → Keeps table W memory (with_text table memory a parts)
  text_keeps (Pointer i path past) k text parts through is = put_keep table memory W (Pointer i path past) through i path past refl parts (text_beside i path past k text parts is)
  text_keeps Unset k text parts through is = all
  text_keeps Null k text parts through is = all
  text_keeps (Number n) k text parts through is = all
  text_keeps (Function key) k text parts through is = all

  writes_leaves : (a : Cell) (k : ℕ) (text : List ℤ) (value : Value) → IsThrough table memory W a → Leaves table memory W (writes table memory a k text value)
  writes_leaves a k text value through = with_it (text_parts table memory a k text) _ _ (λ parts is. text_keeps a k text parts through is)

  -- ---- strlen, strcmp, strncmp
  pub length_leaves : (result : Ctype) (a1 : Cell) → Leaves table memory W (length_row table memory result a1)
  length_leaves result a1 = after_any (text_at table memory a1) _ _ (λ text. all)

  pub compare_leaves : (result : Ctype) (a1 a2 : Cell) → Leaves table memory W (compare_row table memory result a1 a2)
  compare_leaves result a1 a2 = after_any (compared_at table memory a1 a2) _ _ (λ n. all)

  pub compare_part_leaves : (result : Ctype) (a1 a2 a3 : Cell) → Leaves table memory W (compare_part_row table memory result a1 a2 a3)
  compare_part_leaves result a1 a2 a3 = after_any (compared_part table memory a1 a2 (count_of a3)) _ _ (λ n. all)

  -- ---- strcpy, strcat, strncpy
  pub copy_text_leaves : (a1 a2 : Cell) → IsThrough table memory W a1 → Leaves table memory W (copy_text_row table memory a1 a2)
  copy_text_leaves a1 a2 through = after_any (text_at table memory a2) _ _ (λ text. writes_leaves a1 0 (closed text) (one_cell a1) through)

  pub add_text_leaves : (a1 a2 : Cell) → IsThrough table memory W a1 → Leaves table memory W (add_text_row table memory a1 a2)
  add_text_leaves a1 a2 through =
      after_any (text_at table memory a1) _ _ (λ front. after_any (text_at table memory a2) _ _ (λ text. writes_leaves a1 (length front) (closed text) (one_cell a1) through))

  pub copy_part_leaves : (a1 a2 a3 : Cell) → IsThrough table memory W a1 → Leaves table memory W (copy_part_row table memory a1 a2 a3)
  copy_part_leaves a1 a2 a3 through = after_any (part_at table memory a2 (count_of a3)) _ _ (λ text. writes_leaves a1 0 (filled_up (count_of a3) text) (one_cell a1) through)

  -- ---- strdup
  pub duplicate_leaves : (key : ObjectKey) (fixed : Option TypeId) (word : ℕ) (a1 : Cell) → Leaves table memory W (duplicate_row table memory key fixed word a1)
  duplicate_leaves key fixed word a1 =
      either (is_odd word) (gives memory null_value) (duplicated table memory key fixed a1) _ all
      (after_any (text_at table memory a1) _ _ (λ text. same_keeps table W memory (with_new memory key fixed (length text + 1) false (text_cells 0 (closed text))) (more_same memory _)))

  -- ---- sprintf, snprintf, fgets, fread
  pub print_leaves : (result : Ctype) (word : ℕ) (a1 : Cell) → IsThrough table memory W a1 → Leaves table memory W (print_row table memory result word a1)
  print_leaves result word a1 through = writes_leaves a1 0 (closed (text_of word)) (number_value result (pos word)) through

  pub print_part_leaves : (result : Ctype) (word : ℕ) (a1 a2 : Cell) → IsThrough table memory W a1 → Leaves table memory W (print_part_row table memory result word a1 a2)
  print_part_leaves result word a1 a2 through =
      either (count_of a2 == 0) (gives memory (number_value result (pos word))) (writes table memory a1 0 (closed (take (count_of a2 - 1) (text_of word))) (number_value result (pos word))) _ all
      (writes_leaves a1 0 (closed (take (count_of a2 - 1) (text_of word))) (number_value result (pos word)) through)

  pub line_leaves : (word : ℕ) (a1 a2 : Cell) → IsThrough table memory W a1 → Leaves table memory W (line_row table memory word a1 a2)
  line_leaves word a1 a2 through =
      either (word == 0) (gives memory null_value) (writes table memory a1 0 (closed (take (count_of a2 - 1) (text_of word))) (one_cell a1)) _ all
      (writes_leaves a1 0 (closed (take (count_of a2 - 1) (text_of word))) (one_cell a1) through)

  pub block_leaves : (result : Ctype) (word : ℕ) (a1 a2 a3 : Cell) → IsThrough table memory W a1 → Leaves table memory W (block_row table memory result word a1 a2 a3)
  block_leaves result word a1 a2 a3 through =
      writes_leaves a1 0 (block_of word (count_of a2) (count_of a3)) (number_value result (pos (blocks_in (count_of a2) (block_of word (count_of a2) (count_of a3))))) through
