-- What the code decides of values, items and frames is what it means that sets cover them.
use Rattle.std.proofs.Common.{arith, ◌≡◌, ℕ, zero, suc, ◌<◌, ◌↔◌, Bool, false, List, [], ◌∷◌, Option, Some, None, All, length, slice_get, get_or, refl, sym, subst}
use Rattle.std.proofs.lemmas.Option.{slice_get_within, slice_get-get_or, get_or_from_slice_get}
use Rattle.c_types.specs.declared.term.PathStep.{PathStep}
use Rattle.core_tree.specs.Typed.{Sort, NoNode, PlaceNode, ValueNode, StatementNode, type_at}
use Rattle.normal_form.specs.Assignments.{row_in}
use Rattle.obj_space.specs.Spots.{reached}
use Rattle.ref_cells.specs.declared.cells.Cell.{Cell}
use Rattle.ref_cells.specs.declared.cells.Cell.TheVariants.{Unset, Number, Null, Pointer, Function as FunctionCell}
use Rattle.ref_cells.specs.declared.cells.Value.{Value}
use Rattle.ref_cells.specs.declared.instance.Instance.{Instance}
use Rattle.ref_cells.specs.Cells.{CellList}
use Rattle.ref_cells.specs.Places.{AreKnown}
use Rattle.covering_laws.specs.covered_memory.Cells.{EachCell}
use Rattle.covering_laws.specs.covered_memory.Covered.{CellIn, InstanceIn, MemoryIn}
use Rattle.covering_laws.specs.covered_rows.Nodes.{HeldIn, node_row}
use Rattle.covering_laws.specs.covered_state.World.{World, trees_of, view_in, sets_of, setting_in}
use Rattle.covering_laws.specs.covered_state.Items.{Each, ExistsIn, AllExist}
use Rattle.machine_covers.specs.Exact.{MemoryExact, ValuesExact, ArgumentsExact}
use Rattle.machine_covers.specs.Covers.{RowIn, HasIn}
use Rattle.machine_covers.specs.Frames.{ThereBy, ExistsBy, ValueExists}
use Rattle.row_covers.specs.Objects.{KnownBy, MemoryBy}
use Rattle.row_covers.specs.Values.{rows_at, HeldBy, RowHas, HasBy}
use Rattle.row_covers.proofs.Decided.{all_each, each_all, cell_of_by, by_of_cell, cells_of_by, by_of_cells, instance_of_by, by_of_instance}

pub each_of : {X : Type 0} (P : X → Type 0) (xs : List X) → All P xs → Each P xs
each_of P [] h = tt
each_of P (x ∷ xs) h = (h 0 x (omega arith), each_of P xs (λ k d lt. h (suc k) d (omega arith)))

pub all_of : {X : Type 0} (P : X → Type 0) (xs : List X) → Each P xs → All P xs
all_of P [] h k d lt = absurd (omega arith)
all_of P (x ∷ xs) h zero d lt = h.0
all_of P (x ∷ xs) h (suc k) d lt = all_of P xs h.1 k d (omega arith)

module _ (world : World) (memory : List Instance) where
  row_to : (at : Option ℕ) (cells : CellList) → RowHas (sets_of world) memory at cells → RowIn world memory at cells
  row_to at cells h = all_each (λ path cell. CellIn (sets_of world) memory at cell) cells (λ k d lt. cell_of_by (sets_of world) memory at (get_or cells k d).1 (h k d lt))

  row_from : (at : Option ℕ) (cells : CellList) → RowIn world memory at cells → RowHas (sets_of world) memory at cells
  row_from at cells h k d lt = by_of_cell (sets_of world) memory at (get_or cells k d).1 (each_all (λ path cell. CellIn (sets_of world) memory at cell) cells h k d lt)

  pub held_to : (n : ℕ) (v : Value) → HeldBy (sets_of world) (trees_of world) (view_in world) memory n v → HeldIn (sets_of world) (setting_in world) memory n v
  held_to n v h =
      cells_of_by (sets_of world) memory (rows_at (trees_of world) (view_in world) n) (node_row (setting_in world) n) (λ k. refl) (Some (reached (type_at (trees_of world) n) 0 false)) v.cells h

  pub held_from : (n : ℕ) (v : Value) → HeldIn (sets_of world) (setting_in world) memory n v → HeldBy (sets_of world) (trees_of world) (view_in world) memory n v
  held_from n v h =
      by_of_cells (sets_of world) memory (rows_at (trees_of world) (view_in world) n) (node_row (setting_in world) n) (λ k. refl) (Some (reached (type_at (trees_of world) n) 0 false)) v.cells h

  pub has_to : (s : Sort) (n : ℕ) (v : Value) → HasBy (sets_of world) (trees_of world) (view_in world) memory s n v → HasIn world memory s n v
  has_to NoNode n v h = row_to None v.cells h
  has_to PlaceNode n v h = row_to (Some (row_in (setting_in world) n)) v.cells h
  has_to ValueNode n v h = held_to n v h
  has_to StatementNode n v h = row_to None v.cells h

  pub has_from : (s : Sort) (n : ℕ) (v : Value) → HasIn world memory s n v → HasBy (sets_of world) (trees_of world) (view_in world) memory s n v
  has_from NoNode n v h = row_from None v.cells h
  has_from PlaceNode n v h = row_from (Some (row_in (setting_in world) n)) v.cells h
  has_from ValueNode n v h = held_from n v h
  has_from StatementNode n v h = row_from None v.cells h

  -- what a cell points to is there
  there_to : (i : ℕ) (path : List PathStep) (past : Bool) (o : Option Instance) → slice_get memory i ≡ o → ThereBy (sets_of world) path o → ExistsIn world memory (Pointer i path past)
  there_to i path past None e h = absurd h
  there_to i path past (Some inst) e h = (inst, e, h)

  exists_to : (cell : Cell) → ExistsBy (sets_of world) memory cell → ExistsIn world memory cell
  exists_to (Pointer i path past) h = there_to i path past (slice_get memory i) refl h
  exists_to (FunctionCell key) h = tt
  exists_to Unset h = tt
  exists_to (Number n) h = tt
  exists_to Null h = tt

  exists_from : (cell : Cell) → ExistsIn world memory cell → ExistsBy (sets_of world) memory cell
  exists_from (Pointer i path past) h = subst (ThereBy (sets_of world) path) (sym h.1) h.2
  exists_from (FunctionCell key) h = tt
  exists_from Unset h = tt
  exists_from (Number n) h = tt
  exists_from Null h = tt

  pub all_exist_to : (values : List Value) → All (λ v. ValueExists (sets_of world) memory v) values → AllExist world memory values
  all_exist_to values h =
      each_of (λ v. EachCell (λ path cell. ExistsIn world memory cell) v.cells) values
      (λ k d lt. (let v = get_or values k d in all_each (λ path cell. ExistsIn world memory cell) v.cells (λ j e in_it. exists_to (get_or v.cells j e).1 (h k d lt j e in_it))))

  pub all_exist_from : (values : List Value) → AllExist world memory values → All (λ v. ValueExists (sets_of world) memory v) values
  all_exist_from values h k d lt j e in_it =
      let v = get_or values k d in
      exists_from (get_or v.cells j e).1 (each_all (λ path cell. ExistsIn world memory cell) v.cells (all_of (λ v. EachCell (λ path cell. ExistsIn world memory cell) v.cells) values h k d lt) j e in_it)

pub memory_exact : MemoryExact
unfolding MemoryBy
memory_exact world memory known = (
  λ h i inst at.
      (let lt = slice_get_within memory i inst at in
      subst (InstanceIn (sets_of world) memory) (get_or_from_slice_get memory i inst inst at) (instance_of_by (sets_of world) memory (get_or memory i inst) (h i inst lt).1)),
  λ h k d lt. (known k d lt, by_of_instance (sets_of world) memory (get_or memory k d) (h k (get_or memory k d) (slice_get-get_or memory k d lt))),
)

pub values_exact : ValuesExact
values_exact world memory s n v = (has_to world memory s n v, has_from world memory s n v)

pub arguments_exact : ArgumentsExact
arguments_exact world memory arguments = (all_exist_to world memory arguments, all_exist_from world memory arguments)
