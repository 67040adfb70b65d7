-- What the pointers of a covered state name is there.
use Rattle.std.proofs.Common.{arith, ◌≡◌, inl, inr, ℕ, ◌≤◌, false, List, [], ◌∷◌, length, Option, Some, sym, subst}
use Rattle.std.proofs.lemmas.Option.{slice_get_within}
use Rattle.c_types.specs.declared.key.ObjectKey.{ObjectKey}
use Rattle.c_types.specs.declared.key.ObjectKey.TheVariants.{Entity as EntityKey, Text as TextKey, Call as CallKey, Library as LibraryKey, Star as StarKey, Varargs as VarargsKey, Outside as OutsideKey, Function as FunctionKey}
use Rattle.c_types.specs.declared.term.PathStep.{PathStep}
use Rattle.core_tree.specs.Typed.{Sort, NoNode, PlaceNode, ValueNode, StatementNode, sort_at, type_at}
use Rattle.obj_space.specs.Spots.{Reached, reached, part_at}
use Rattle.row_numbers.specs.Kept.{kept_row}
use Rattle.row_numbers.specs.Functions.{number_of}
use Rattle.row_numbers.specs.Setting.{result_row}
use Rattle.ref_cells.specs.declared.cells.Cell.{Cell}
use Rattle.ref_cells.specs.declared.cells.Cell.TheVariants.{Unset, Number, Null, Pointer, Function}
use Rattle.ref_cells.specs.declared.cells.Value.{Value}
use Rattle.ref_cells.specs.declared.instance.Instance.{Instance}
use Rattle.ref_cells.specs.Cells.{CellList}
use Rattle.call_sites.specs.Calls.{rest_of}
use Rattle.ref_state.specs.declared.items.Item.{Item}
use Rattle.ref_state.specs.declared.items.Item.TheVariants.{Do, Wait, Library, Result}
use Rattle.ref_state.specs.Values.{cell_of}
use Rattle.normal_form.specs.Assignments.{row_in, given_type, type_nodes}
use Rattle.covering_laws.specs.covered_memory.Cells.{EachCell}
use Rattle.covering_laws.specs.covered_memory.Covered.{Sets, CellIn, pointer_row, CellsIn, cell_row, outside_row}
use Rattle.covering_laws.proofs.covered_memory.Cells.{each_change}
use Rattle.covering_laws.specs.covered_rows.Nodes.{node_row}
use Rattle.covering_laws.specs.covered_state.World.{World, trees_of, view_in, sets_of, setting_in}
use Rattle.covering_laws.specs.covered_state.Items.{Each, SortIn, NodeIn, ReturnedIn, ArgumentsIn, ExistsIn, AllExist, ItemIn}
use Rattle.covering_laws.specs.covered_state.Awaited.{IsApart, AreApart, ItemApart}
use Rattle.ref_state.specs.declared.frames.Frame.{Frame}
use Rattle.covering_laws.specs.covered_state.State.{FrameIn, HandedIn}
use Rattle.covering_laws.specs.covered_state.Exists.{NamesBelow, AllBelow, ItemBelow, CoveredExist}
use Rattle.covering_laws.proofs.covered_state.Stays.{each_change as each_one}

module _ (g : Sets) (memory : List Instance) where
  pub cell_below : (row : Option ℕ) (cell : Cell) → CellIn g memory row cell → NamesBelow (length memory) cell
  cell_below row (Pointer i path past) h = slice_get_within memory i h.inst h.inst_is
  cell_below row (Function key) h = tt
  cell_below row Unset h = tt
  cell_below row (Number n) h = tt
  cell_below row Null h = tt

  pub rows_below : (row : List PathStep → Option ℕ) (cells : CellList) → EachCell (λ p c. CellIn g memory (row p) c) cells → AllBelow (length memory) cells
  rows_below row cells h = each_change (λ p c. CellIn g memory (row p) c) (λ p c. NamesBelow (length memory) c) cells (λ p c x. cell_below (row p) c x) h

  pub cells_below : (row : ℕ → ℕ) (whole : Option Reached) (cells : CellList) → CellsIn g memory row whole cells → AllBelow (length memory) cells
  cells_below row whole cells h = rows_below (λ p. pointer_row row (part_at g.table whole p)) cells h

module _ (world : World) (memory : List Instance) where
  -- a place is one cell
  one_below : (row : Option ℕ) (cells : CellList) → CellIn (sets_of world) memory row (cell_of (record { cells = cells })) → length cells ≤ 1 → AllBelow (length memory) cells
  one_below row [] h short = tt
  one_below row (e ∷ []) h short = (cell_below (sets_of world) memory row e.1 h, tt)
  one_below row (e ∷ f ∷ rest) h short = absurd (omega arith)

  none_below : (cells : CellList) → cells ≡ [] → AllBelow (length memory) cells
  none_below cells e = subst (AllBelow (length memory)) (sym e) tt

  sort_below : (s : Sort) (n : ℕ) (v : Value) → SortIn world memory s n v → AllBelow (length memory) v.cells
  sort_below NoNode n v h = none_below v.cells h
  sort_below PlaceNode n v h = one_below (Some (row_in (setting_in world) n)) v.cells h.0 h.1
  sort_below ValueNode n v h = cells_below (sets_of world) memory (node_row (setting_in world) n) (Some (reached (type_at (trees_of world) n) 0 false)) v.cells h.0
  sort_below StatementNode n v h = none_below v.cells h

  pub node_below : (n : ℕ) (v : Value) → NodeIn world memory n v → AllBelow (length memory) v.cells
  node_below n v h = sort_below (sort_at (trees_of world) n) n v h

  pub returned_below : (f : ObjectKey) (v : Value) → ReturnedIn world memory f v → AllBelow (length memory) v.cells
  returned_below (EntityKey f) v h =
      cells_below (sets_of world) memory
      (kept_row (result_row (trees_of world) (view_in world) (number_of (trees_of world) (view_in world) f)) (type_nodes (setting_in world) (given_type (setting_in world) f)))
      (Some (reached (given_type (setting_in world) f) 0 false)) v.cells h
  returned_below (TextKey n) v h = absurd h
  returned_below (CallKey n) v h = absurd h
  returned_below (LibraryKey n) v h = absurd h
  returned_below (StarKey n) v h = absurd h
  returned_below OutsideKey v h = absurd h
  returned_below (VarargsKey n) v h = absurd h
  returned_below (FunctionKey n) v h = absurd h

  -- a pending function's arguments, each of them an operand of its call, or what the function that calls back passes on
  arguments_below : (nodes : List ℕ) (values : List Value) → length values ≤ length nodes → ArgumentsIn world memory nodes values → Each (λ v. AllBelow (length memory) v.cells) values
  arguments_below nodes [] short h = tt
  arguments_below [] (v ∷ values) short h = absurd (omega arith)
  arguments_below (a ∷ nodes) (v ∷ values) short h = (cells_below (sets_of world) memory (node_row (setting_in world) a) (Some (reached (type_at (trees_of world) a) 0 false)) v.cells h.0, arguments_below nodes values (omega arith) h.1)

  exists_below : (cell : Cell) → ExistsIn world memory cell → NamesBelow (length memory) cell
  exists_below (Pointer i path past) h = slice_get_within memory i h.0 h.1
  exists_below (Function key) h = tt
  exists_below Unset h = tt
  exists_below (Number n) h = tt
  exists_below Null h = tt

  values_below : (values : List Value) → AllExist world memory values → Each (λ v. AllBelow (length memory) v.cells) values
  values_below values h =
      each_one (λ v. EachCell (λ path cell. ExistsIn world memory cell) v.cells) (λ v. AllBelow (length memory) v.cells)
      (λ v x. each_change (λ path cell. ExistsIn world memory cell) (λ path cell. NamesBelow (length memory) cell) v.cells (λ path cell y. exists_below cell y) x) values h

  pub item_below : (f : ObjectKey) (item : Item) → ItemIn world memory f item → ItemBelow (length memory) item
  item_below f (Do n) h = tt
  item_below f (Wait n left values) h = each_one (λ v. NodeIn world memory v.0 v.1) (λ v. AllBelow (length memory) v.1.cells) (λ v x. node_below v.0 v.1 x) values h.2
  item_below f (Library n function arguments) (inl h) = arguments_below (rest_of h.node.children) arguments h.all h.arguments_in
  item_below f (Library n function arguments) (inr h) = values_below arguments h.exist
  item_below f (Result v) h = returned_below f v h

-- what a cell points to that is in a row's set is there
pub cell_exists : (world : World) (memory : List Instance) (row : Option ℕ) (cell : Cell) → CellIn (sets_of world) memory row cell → ExistsIn world memory cell
cell_exists world memory row (Pointer i path past) h = (h.inst, h.inst_is, h.in_tree)
cell_exists world memory row (Function key) h = tt
cell_exists world memory row Unset h = tt
cell_exists world memory row (Number n) h = tt
cell_exists world memory row Null h = tt

-- what names one of the first so many instances doesn't name the next
module _ (count : ℕ) where
  cell_apart : (cell : Cell) → NamesBelow count cell → IsApart count cell
  cell_apart (Pointer i path past) h = λ same. (let none : ⊥ = omega arith in none)
  cell_apart (Function key) h = tt
  cell_apart Unset h = tt
  cell_apart (Number n) h = tt
  cell_apart Null h = tt

  pub cells_apart : (cells : CellList) → AllBelow count cells → AreApart count cells
  cells_apart cells h = each_change (λ path cell. NamesBelow count cell) (λ path cell. IsApart count cell) cells (λ path cell x. cell_apart cell x) h

  item_apart : (item : Item) → ItemBelow count item → ItemApart count item
  item_apart (Do n) h = tt
  item_apart (Wait n left values) h = each_one (λ v. AllBelow count v.1.cells) (λ v. AreApart count v.1.cells) (λ v x. cells_apart v.1.cells x) values h
  item_apart (Library n function arguments) h = each_one (λ v. AllBelow count v.cells) (λ v. AreApart count v.cells) (λ v x. cells_apart v.cells x) arguments h
  item_apart (Result v) h = cells_apart v.cells h

  pub items_apart : (items : List Item) → Each (ItemBelow count) items → Each (ItemApart count) items
  items_apart items h = each_one (ItemBelow count) (ItemApart count) item_apart items h

  pub frames_apart : (frames : List Frame) → Each (λ f. Each (ItemBelow count) f.items) frames → Each (λ f. Each (ItemApart count) f.items) frames
  frames_apart frames h = each_one (λ (f : Frame). Each (ItemBelow count) f.items) (λ (f : Frame). Each (ItemApart count) f.items) (λ f x. items_apart f.items x) frames h

-- each pointer of a covered state names an instance that is there
pub covered_exist : CoveredExist
covered_exist world state covered = record {
  memory = λ i inst at. (let h = covered.memory i inst at in rows_below (sets_of world) state.memory (cell_row world.program.types inst h.location.content h.first) inst.cells h.cells);
  frames = each_one (FrameIn world state.memory) (λ f. Each (ItemBelow (length state.memory)) f.items)
      (λ f h. each_one (ItemIn world state.memory f.function) (ItemBelow (length state.memory)) (item_below world state.memory f.function) f.items h.items) state.frames covered.frames;
  handed = each_one (HandedIn world state.memory) (λ entry. NamesBelow (length state.memory) entry.1) (λ entry x. cell_below (sets_of world) state.memory (outside_row (sets_of world)) entry.1 x) state.handed covered.handed;
}
