-- The instance of what a variadic function is passed past its parameters (C11 7.16).
use Rattle.std.specs.Prelude.{ℕ, ◌+◌, true, false, List, [], ◌∷◌, ◌++◌, None, map, length}
use Rattle.c_types.specs.declared.key.ObjectKey.{ObjectKey}
use Rattle.c_types.specs.declared.term.PathStep.TheVariants.{Index}
use Rattle.ref_cells.specs.Cells.{CellList}
use Rattle.ref_cells.specs.declared.cells.Value.{Value}
use Rattle.ref_cells.specs.declared.instance.Instance.{Instance}

-- the cells of a value, under that index
abbrev pub under_index : ℕ → CellList → CellList
under_index i cells = map (λ e. (Index i ∷ e.0, e.1)) cells

-- those of values one after another, the first of them under index i
abbrev pub argument_cells : ℕ → List Value → CellList
argument_cells i [] = []
argument_cells i (value ∷ rest) = under_index i value.cells ++ argument_cells (i + 1) rest

-- it has no type, and counts its arguments in place of bytes
abbrev pub arguments_object : ObjectKey → List Value → Instance
arguments_object key arguments = record {
  key = key;
  live = true;
  ty = None;
  bytes = length arguments;
  zero = false;
  cells = argument_cells 0 arguments;
}
