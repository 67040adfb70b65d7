-- A step that doesn't choose doesn't look at its word.
use Rattle.std.proofs.Common.{arith, ◌≡◌, ℕ, zero, suc, ◌+◌, ◌%◌, ◌&&◌, ◌||◌, cond, Bool, true, false, ℤ, List, [], ◌∷◌, Option, Some, None, Result, Err, length, slice_get, refl, ap, sym, subst}
use Rattle.c_types.specs.declared.key.ObjectKey.{ObjectKey}
use Rattle.c_types.specs.declared.term.TypeId.{TypeId}
use Rattle.c_types.specs.Trees.{Ctype, VoidType, BoolType, IntegerType, PointerTo}
use Rattle.c_types.specs.Table.{type_of}
use Rattle.core_tree.specs.declared.node.Node.{Node}
use Rattle.core_tree.specs.declared.node.NodeKind.{NodeKind}
use Rattle.core_tree.specs.declared.node.NodeKind.TheVariants.{Convert}
use Rattle.core_tree.specs.Typed.{type_at}
use Rattle.obj_space.specs.View.{view_of}
use Rattle.row_numbers.specs.Objects.{library_id}
use Rattle.row_numbers.specs.Functions.{parameters_of}
use Rattle.ref_cells.specs.declared.cells.Cell.{Cell}
use Rattle.ref_cells.specs.declared.cells.Reason.{Reason}
use Rattle.ref_cells.specs.declared.cells.Reason.TheVariants.{Unset as UnsetUse}
use Rattle.ref_cells.specs.declared.cells.Value.{Value}
use Rattle.ref_cells.specs.declared.instance.Instance.{Instance}
use Rattle.ref_elements.specs.Outcomes.{Effect, Effected}
use Rattle.ref_elements.specs.Runs.{◌>>=◌}
use Rattle.ref_lib.specs.declared.rows.Making.TheVariants.{Free, Object, Place}
use Rattle.ref_lib.specs.declared.rows.Elements.TheVariants.{CopyBytes, SetBytes}
use Rattle.ref_lib.specs.declared.rows.Texts.TheVariants.{Length, Compare, ComparePart, CopyText, AddText, CopyPart}
use Rattle.ref_lib.specs.declared.rows.Plain.TheVariants.{InClass, ToUpper, ToLower, Keep, Exit, Abort}
use Rattle.ref_lib.specs.declared.rows.Row.{Row as LibraryRow}
use Rattle.ref_lib.specs.declared.rows.Row.TheVariants.{Makes, Moves, Writes, Answers}
use Rattle.ref_lib.specs.Effects.{rows, row_effect, effect}
use Rattle.ref_state.specs.declared.items.Item.{Item}
use Rattle.ref_state.specs.declared.items.Item.TheVariants.{Do, Wait, Library, Result as Returned}
use Rattle.ref_state.specs.declared.frames.Frame.{Frame}
use Rattle.ref_state.specs.declared.state.State.{State}
use Rattle.ref_values.specs.Memory.{pointer_converted, scalar_converted, converted_to, convert_row}
use Rattle.ref_values.specs.Values.{computed, one_computed, value_computed, cell_given, cell_computed, gives_cell, one_of, uses_all, lacks}
use Rattle.ref_statements.specs.declared.forms.Form.{Form}
use Rattle.ref_statements.specs.Forms.{form_of, branches}
use Rattle.ref_statements.specs.Rows.{Row, computes}
use Rattle.ref_statements.specs.Nodes.{picks, picked, begun_value, begun_by, do_in, do_row, operand_row, taken_by, finish_row, wait_by, wait_in, wait_row}
use Rattle.ref_frames.specs.Running.{Running}
use Rattle.ref_calls.specs.Library.{object_of, result_in, term_in, performed_as, performed, goes_by, library_row}
use Rattle.ref_calls.specs.Lists.{next_row}
use Rattle.ref_calls.specs.Outcomes.{outcome}
use Rattle.ref_start.specs.Begin.{begins_with, begins, begin, main_of}
use Rattle.ref_start.specs.Entries.{starts_by, starts}
use Rattle.ref_machine.specs.Step.{placed, calls, takes, call_row, item_step, outside_step, frames_step, step, library_chooses, is_pointer, is_measure, measures, has_some, node_chooses, item_chooses, main_chooses, start_chooses, outside_chooses, frames_choose, chooses}

-- Library functions.

-- the rows that look at no word
abbrev free : Option LibraryRow → Bool
free None = true
free (Some (Makes Free)) = true
free (Some (Makes (Object position))) = true
free (Some (Makes (Place position))) = true
free (Some (Makes row)) = false
free (Some (Moves CopyBytes)) = true
free (Some (Moves SetBytes)) = true
free (Some (Moves row)) = false
free (Some (Writes Length)) = true
free (Some (Writes Compare)) = true
free (Some (Writes ComparePart)) = true
free (Some (Writes CopyText)) = true
free (Some (Writes AddText)) = true
free (Some (Writes CopyPart)) = true
free (Some (Writes row)) = false
free (Some (Answers (InClass class))) = true
free (Some (Answers ToUpper)) = true
free (Some (Answers ToLower)) = true
free (Some (Answers Keep)) = true
free (Some (Answers Exit)) = true
free (Some (Answers Abort)) = true
free (Some (Answers row)) = false

both_left : (p q : Bool) → p && q ≡ true → p ≡ true
both_left true q h = refl
both_left false q h = cc

both_right : (p q : Bool) → p && q ≡ true → q ≡ true
both_right true q h = h
both_right false q h = cc

either_right : (p q : Bool) → p || q ≡ true → p ≡ false → q ≡ true
either_right true q h none = cc
either_right false q h none = h

-- each of these rows, the first of that number, is one that chooses or looks at no word
abbrev told : ℕ → List LibraryRow → Bool
told i [] = true
told i (row ∷ rest) = (library_chooses i || free (Some row)) && told (i + 1) rest

told_at : (xs : List LibraryRow) (i k n : ℕ) → told i xs ≡ true → n ≡ i + k → library_chooses n ≡ false → free (slice_get xs k) ≡ true
told_at [] i k n h e none = refl
told_at (row ∷ rest) i zero n h e none =
    let same : i ≡ n = omega (arith, e) in
    either_right (library_chooses n) (free (Some row))
    (subst (λ (m : ℕ). library_chooses m || free (Some row) ≡ true) same (both_left (library_chooses i || free (Some row)) (told (i + 1) rest) h))
    none
told_at (row ∷ rest) i (suc k) n h e none =
    told_at rest (i + 1) k n (both_right (library_chooses i || free (Some row)) (told (i + 1) rest) h) (omega (arith, e)) none

row_free : (k : ℕ) → library_chooses k ≡ false → free (slice_get rows k) ≡ true
unfolding rows library_chooses
row_free k none = told_at rows 0 k k refl (omega arith) none

module _ (w : Running) (a b : ℕ) where
  row_same : (memory : List Instance) (o : Option LibraryRow) (key : ObjectKey) (fixed : Option TypeId) (t : Ctype) (values : List Value)
      → free o ≡ true → row_effect w.trees.types memory o key fixed t values a ≡ row_effect w.trees.types memory o key fixed t values b
  row_same memory None key fixed t values h = refl
  row_same memory (Some (Makes Free)) key fixed t values h = refl
  row_same memory (Some (Makes (Object position))) key fixed t values h = refl
  row_same memory (Some (Makes (Place position))) key fixed t values h = refl
  row_same memory (Some (Makes row)) key fixed t values h = cc
  row_same memory (Some (Moves CopyBytes)) key fixed t values h = refl
  row_same memory (Some (Moves SetBytes)) key fixed t values h = refl
  row_same memory (Some (Moves row)) key fixed t values h = cc
  row_same memory (Some (Writes Length)) key fixed t values h = refl
  row_same memory (Some (Writes Compare)) key fixed t values h = refl
  row_same memory (Some (Writes ComparePart)) key fixed t values h = refl
  row_same memory (Some (Writes CopyText)) key fixed t values h = refl
  row_same memory (Some (Writes AddText)) key fixed t values h = refl
  row_same memory (Some (Writes CopyPart)) key fixed t values h = refl
  row_same memory (Some (Writes row)) key fixed t values h = cc
  row_same memory (Some (Answers (InClass class))) key fixed t values h = refl
  row_same memory (Some (Answers ToUpper)) key fixed t values h = refl
  row_same memory (Some (Answers ToLower)) key fixed t values h = refl
  row_same memory (Some (Answers Keep)) key fixed t values h = refl
  row_same memory (Some (Answers Exit)) key fixed t values h = refl
  row_same memory (Some (Answers Abort)) key fixed t values h = refl
  row_same memory (Some (Answers row)) key fixed t values h = cc

  performed_by_same : (memory : List Instance) (n k : ℕ) (values : List Value) (o : Option TypeId) → library_chooses k ≡ false
      → performed_as w memory n k values a o ≡ performed_as w memory n k values b o
  unfolding effect
  performed_by_same memory n k values None none = refl
  performed_by_same memory n k values (Some result) none =
      row_same memory (slice_get rows k) (object_of w.trees n k) _ (type_of w.trees.types result.0) values (row_free k none)

  performed_same : (memory : List Instance) (n k : ℕ) (values : List Value) → library_chooses k ≡ false
      → performed w memory n k values a ≡ performed w memory n k values b
  unfolding performed
  performed_same memory n k values none =
      performed_by_same memory n k values (result_in (term_in w.trees (library_id k w.trees.entities))) none

  library_same : (state : State) (f : Frame) (rest : List Frame) (n k : ℕ) (values : List Value) → library_chooses k ≡ false
      → library_row w state f rest n k values a ≡ library_row w state f rest n k values b
  unfolding library_row
  library_same state f rest n k values none =
      ap (λ (r : Result Effected Reason). r >>= λ e. goes_by w (record state { memory = e.memory }) f rest n k e.outcome.value e.outcome.stores e.outcome.next)
      (performed_same state.memory n k values none)

  -- Nodes.

  pointer_same : (memory : List Instance) (cell : Cell) (ty : TypeId) (t : Ctype) → is_measure t ≡ false
      → pointer_converted w.trees.types memory cell ty t a ≡ pointer_converted w.trees.types memory cell ty t b
  pointer_same memory cell ty BoolType h = refl
  pointer_same memory cell ty (IntegerType size rank signed) h = cc
  pointer_same memory cell ty t h = refl

  scalar_same : (memory : List Instance) (from : Ctype) (cell : Cell) (ty : TypeId) → (is_pointer from && is_measure (type_of w.trees.types ty.0)) ≡ false
      → scalar_converted w.trees.types memory from cell ty a ≡ scalar_converted w.trees.types memory from cell ty b
  scalar_same memory (PointerTo to) cell ty h = pointer_same memory cell ty (type_of w.trees.types ty.0) h
  scalar_same memory from cell ty h = refl

  converted_same : (memory : List Instance) (from : Ctype) (cell : Cell) (ty : TypeId) (t : Ctype) → (is_pointer from && is_measure (type_of w.trees.types ty.0)) ≡ false
      → converted_to w.trees.types memory from cell ty a t ≡ converted_to w.trees.types memory from cell ty b t
  converted_same memory from cell ty VoidType h = refl
  converted_same memory from cell ty t h = scalar_same memory from cell ty h

  convert_same : (memory : List Instance) (from : Ctype) (cell : Cell) (ty : TypeId) → (is_pointer from && is_measure (type_of w.trees.types ty.0)) ≡ false
      → convert_row w.trees.types memory from cell ty a ≡ convert_row w.trees.types memory from cell ty b
  unfolding convert_row
  convert_same memory from cell ty h = converted_same memory from cell ty (type_of w.trees.types ty.0) h

  one_same : (memory : List Instance) (ty : TypeId) (kind : NodeKind) (v : ℕ) (values : List (ℕ × Value)) → measures w.trees (type_of w.trees.types ty.0) kind (v ∷ []) ≡ false
      → one_computed w.trees memory ty kind v values a ≡ one_computed w.trees memory ty kind v values b
  one_same memory ty Convert v values h = convert_same memory (type_at w.trees v) _ ty h
  one_same memory ty kind v values h = refl

  value_same : (memory : List Instance) (ty : TypeId) (kind : NodeKind) (children : List ℕ) (values : List (ℕ × Value))
      → measures w.trees (type_of w.trees.types ty.0) kind children ≡ false
      → value_computed w.trees memory ty kind children (one_of children) values a ≡ value_computed w.trees memory ty kind children (one_of children) values b
  value_same memory ty kind [] values h = refl
  value_same memory ty kind (v ∷ []) values h = one_same memory ty kind v values h
  value_same memory ty kind (v ∷ u ∷ rest) values h = refl

  computed_same : (memory : List Instance) (own : List ℕ) (n : ℕ) (node : Node) (values : List (ℕ × Value))
      → measures w.trees (type_of w.trees.types node.ty.0) node.kind node.children ≡ false
      → computed w.trees memory own n node values a ≡ computed w.trees memory own n node values b
  unfolding computed
  computed_same memory own n node values h =
      ap (λ (r : Effect). cond (uses_all (type_of w.trees.types node.ty.0) node.kind && lacks w.trees values node.children) (Err UnsetUse)
      (cond (gives_cell node.kind) (cell_given memory (cell_computed w.trees memory own n node.kind node.children values)) r))
      (value_same memory node.ty node.kind node.children values h)

  none_measured : (t : Ctype) (kind : NodeKind) → measures w.trees t kind [] ≡ false
  none_measured t Convert = refl
  none_measured t kind = refl

  begun_value_same : (memory : List Instance) (f : Frame) (n : ℕ) (node : Node) (children : List ℕ) → node.children ≡ children
      → begun_value w.trees memory f n node children a ≡ begun_value w.trees memory f n node children b
  begun_value_same memory f n node [] e =
      ap (computes f n) (computed_same memory f.instances n node []
      (subst (λ (cs : List ℕ). measures w.trees (type_of w.trees.types node.ty.0) node.kind cs ≡ false) (sym e) (none_measured _ node.kind)))
  begun_value_same memory f n node (c ∷ rest) e = refl

  begun_by_same : (memory : List Instance) (f : Frame) (n : ℕ) (node : Node) (form : Form)
      → begun_by w.trees memory f n node form a ≡ begun_by w.trees memory f n node form b
  begun_by_same memory f n node Form.Value = begun_value_same memory f n node node.children refl
  begun_by_same memory f n node Form.Sequence = begun_value_same memory f n node node.children refl
  begun_by_same memory f n node Form.Choose = begun_value_same memory f n node node.children refl
  begun_by_same memory f n node form = refl

  do_in_same : (memory : List Instance) (f : Frame) (n : ℕ) (o : Option Node) → do_in w.trees memory f n o a ≡ do_in w.trees memory f n o b
  do_in_same memory f n None = refl
  do_in_same memory f n (Some node) = begun_by_same memory f n node (form_of node.kind)

  do_same : (memory : List Instance) (f : Frame) (n : ℕ) → do_row w.trees memory f n a ≡ do_row w.trees memory f n b
  unfolding do_row
  do_same memory f n = do_in_same memory f n (slice_get w.trees.nodes n)

  one_picked : (p : Bool) → cond p (a % 1) 0 ≡ cond p (b % 1) 0
  one_picked true = omega arith
  one_picked false = refl

  none_picked : (p : Bool) (count : ℕ) → p ≡ false → cond p (a % count) 0 ≡ cond p (b % count) 0
  none_picked true count h = cc
  none_picked false count h = refl

  picked_same : (form : Form) (c : ℕ) (operands : List ℕ) → (has_some operands && picks form) ≡ false
      → picked form (length (c ∷ operands)) a ≡ picked form (length (c ∷ operands)) b
  picked_same form c [] h = one_picked (picks form)
  picked_same form c (d ∷ rest) h = none_picked (picks form) (length (c ∷ d ∷ rest)) h

  taken_same : (memory : List Instance) (f : Frame) (n : ℕ) (form : Form) (children : List ℕ) (c : ℕ) (operands : List ℕ) (values : List (ℕ × Value)) (o : Option (ℕ × ℕ))
      → (has_some operands && picks form) ≡ false
      → taken_by w.trees memory f n form children (c ∷ operands) values a o ≡ taken_by w.trees memory f n form children (c ∷ operands) values b o
  taken_same memory f n form children c operands values None h =
      ap (λ (i : ℕ). operand_row w.trees memory f form children (c ∷ operands) i) (picked_same form c operands h)
  taken_same memory f n form children c operands values (Some two) h = refl

  finish_same : (memory : List Instance) (f : Frame) (n : ℕ) (node : Node) (form : Form) (values : List (ℕ × Value))
      → measures w.trees (type_of w.trees.types node.ty.0) node.kind node.children ≡ false
      → finish_row w.trees memory f n node form values a ≡ finish_row w.trees memory f n node form values b
  finish_same memory f n node Form.Value values h = ap (computes f n) (computed_same memory f.instances n node values h)
  finish_same memory f n node Form.Sequence values h = ap (computes f n) (computed_same memory f.instances n node values h)
  finish_same memory f n node form values h = refl

  wait_by_same : (memory : List Instance) (f : Frame) (n : ℕ) (node : Node) (operands : List ℕ) (values : List (ℕ × Value))
      → node_chooses w.trees (Some node) operands ≡ false
      → wait_by w.trees memory f n node operands values a ≡ wait_by w.trees memory f n node operands values b
  wait_by_same memory f n node [] values h = finish_same memory f n node (form_of node.kind) values h
  wait_by_same memory f n node (c ∷ operands) values h =
      taken_same memory f n (form_of node.kind) node.children c operands values (branches (form_of node.kind) (c ∷ operands)) h

  wait_in_same : (memory : List Instance) (f : Frame) (n : ℕ) (o : Option Node) (operands : List ℕ) (values : List (ℕ × Value))
      → node_chooses w.trees o operands ≡ false
      → wait_in w.trees memory f n o operands values a ≡ wait_in w.trees memory f n o operands values b
  wait_in_same memory f n None operands values h = refl
  wait_in_same memory f n (Some node) operands values h = wait_by_same memory f n node operands values h

  wait_same : (memory : List Instance) (f : Frame) (n : ℕ) (operands : List ℕ) (values : List (ℕ × Value))
      → node_chooses w.trees (slice_get w.trees.nodes n) operands ≡ false
      → wait_row w.trees memory f n operands values a ≡ wait_row w.trees memory f n operands values b
  unfolding wait_row
  wait_same memory f n operands values h = wait_in_same memory f n (slice_get w.trees.nodes n) operands values h

  -- Steps.

  item_same : (state : State) (f : Frame) (rest : List Frame) (items : List Item) → item_chooses w.trees items ≡ false
      → item_step w state f rest items a ≡ item_step w state f rest items b
  item_same state f rest [] h = refl
  item_same state f rest (Do n ∷ items) h = ap (λ (r : Row). outcome n (placed state rest r)) (do_same state.memory f n)
  item_same state f rest (Wait n operands values ∷ items) h =
      ap (λ (r : Row). outcome n (cond (calls w.trees n operands) (call_row w state f rest n values)
      (cond (takes w.trees n operands) (next_row w state f rest n values) (placed state rest r))))
      (wait_same state.memory f n operands values h)
  item_same state f rest (Library n k values ∷ items) h =
      ap (λ (r : Result State Reason). outcome n r) (library_same state f rest n k values h)
  item_same state f rest (Returned value ∷ items) h = refl

  begins_with_same : (state : State) (main : ℕ) (keys : List ObjectKey) → has_some keys ≡ false
      → begins_with w state main a keys ≡ begins_with w state main b keys
  begins_with_same state main [] h = refl
  begins_with_same state main (key ∷ rest) h = cc

  begins_same : (state : State) (o : Option ℕ) → main_chooses w o ≡ false → begins w state a o ≡ begins w state b o
  begins_same state None h = refl
  begins_same state (Some main) h = begins_with_same state main (parameters_of w.trees (view_of w.space) main) h

  begin_same : (state : State) → main_chooses w (main_of w.trees) ≡ false → begin w state a ≡ begin w state b
  unfolding begin
  begin_same state h = begins_same state (main_of w.trees) h

  starts_by_same : (state : State) (entries : List ℕ) → start_chooses w entries ≡ false → starts_by w state a entries ≡ starts_by w state b entries
  starts_by_same state [] h = begin_same state h
  starts_by_same state (e ∷ entries) h = cc

  starts_same : (state : State) → start_chooses w w.entries ≡ false → starts w state a ≡ starts w state b
  unfolding starts
  starts_same state h = starts_by_same state w.entries h

  outside_same : (state : State) (status : Option ℤ) → outside_chooses w status ≡ false
      → outside_step w state status a ≡ outside_step w state status b
  outside_same state None h = ap (λ (r : Result State Reason). outcome 0 r) (starts_same state h)
  outside_same state (Some status) h = refl

  frames_same : (state : State) (frames : List Frame) → frames_choose w state.status frames ≡ false
      → frames_step w state frames a ≡ frames_step w state frames b
  frames_same state [] h = outside_same state state.status h
  frames_same state (f ∷ rest) h = item_same state f rest f.items h

pub step_same : (w : Running) (state : State) (a b : ℕ) → chooses w state ≡ false → step w state a ≡ step w state b
unfolding step
step_same w state a b h = frames_same w a b state state.frames h
