-- A pointer that is given to a library function is covered as one cell.
use Rattle.std.proofs.Common.{◌≡◌, ℕ, List, [], ◌∷◌, Option, Some, None, false, sym, ap, subst}
use Rattle.c_types.specs.declared.term.PathStep.{PathStep}
use Rattle.c_types.specs.declared.term.PathStep.TheVariants.{Index, Member}
use Rattle.c_types.specs.Trees.{Ctype, PointerTo}
use Rattle.core_tree.specs.Typed.{type_at}
use Rattle.obj_space.specs.Spots.{reached, part_at}
use Rattle.obj_space.proofs.Followed.{no_part}
use Rattle.ref_cells.specs.declared.cells.Cell.{Cell}
use Rattle.ref_cells.specs.declared.cells.Value.{Value}
use Rattle.ref_cells.specs.declared.instance.Instance.{Instance}
use Rattle.ref_cells.specs.Cells.{CellList}
use Rattle.ref_mem.specs.Reads.{one_cell}
use Rattle.ref_elements.specs.Arguments.{first_cell, scalar_of}
use Rattle.covering_laws.specs.covered_memory.Covered.{Sets, CellIn, pointer_row, ValueIn}
use Rattle.covering_laws.specs.covered_rows.Nodes.{node_row}
use Rattle.covering_laws.proofs.covered_memory.Stays.{cell_from_none}
use Rattle.covering_laws.specs.covered_needs.Needs.{ArgumentMet}

module _ (g : Sets) (memory : List Instance) (row : ℕ → ℕ) (t : Ctype) where
  no_row : (step : PathStep) (rest : List PathStep) → pointer_row row (part_at g.table (Some (reached (PointerTo t) 0 false)) (step ∷ rest)) ≡ None
  no_row (Index i) rest = ap (pointer_row row) (no_part g.table rest)
  no_row (Member k) rest = ap (pointer_row row) (no_part g.table rest)

  cell_held : (path : List PathStep) (c : Cell) → CellIn g memory (pointer_row row (part_at g.table (Some (reached (PointerTo t) 0 false)) path)) c → CellIn g memory (Some (row 0)) c
  cell_held [] c h = h
  cell_held (step ∷ rest) c h = cell_from_none g memory (Some (row 0)) c (subst (λ (o : Option ℕ). CellIn g memory o c) (no_row step rest) h)

  pub first_held : (v : Value) → ValueIn g memory row (PointerTo t) v → ValueIn g memory row (PointerTo t) (one_cell (first_cell v.cells))
  first_held v h = by v.cells h
    where
      by : (cells : CellList) → ValueIn g memory row (PointerTo t) (record { cells = cells }) → ValueIn g memory row (PointerTo t) (one_cell (first_cell cells))
      by [] h = (tt, tt)
      by (e ∷ rest) h = (cell_held e.0 e.1 h.0, tt)

pub argument_met : ArgumentMet
argument_met c k a t v at given type held = (
  a,
  t,
  at,
  type,
  subst (λ (o : Option Value). ValueIn c.sets c.memory (node_row c.setting a) (type_at c.setting.trees a) (one_cell (scalar_of o))) (sym given)
      (subst (λ (s : Ctype). ValueIn c.sets c.memory (node_row c.setting a) s (one_cell (first_cell v.cells))) (sym type)
      (first_held c.sets c.memory (node_row c.setting a) t v (subst (λ (s : Ctype). ValueIn c.sets c.memory (node_row c.setting a) s v) type held))),
)
