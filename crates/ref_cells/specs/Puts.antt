-- The cells of a value put under a path of others.
use Rattle.std.specs.Prelude.{Bool, true, false, cond, List, [], ◌∷◌, ◌++◌, Option, Some, None}
use Rattle.c_types.specs.declared.term.PathStep.{PathStep}
use Rattle.c_types.specs.Trees.{Ctype}
use Rattle.c_types.specs.Table.{Table}
use Rattle.c_types.specs.Paths.{part_below}
use Rattle.ref_cells.specs.Cells.{CellList, under, below, above, prefixed}
use Rattle.ref_cells.specs.Values.{filled, goes_on, listed}

-- what is listed of a member that becomes active: where the mark stands, that each of its cells is unset
abbrev pub lost : Table → Bool → Option Ctype → CellList
lost table false t = []
lost table true None = []
lost table true (Some t) = filled table false t []

-- Cells with those of a value put under a path, where a value without cells leaves that path. Under a member of a union
-- that wasn't active, the member becomes active: all that is listed of the union goes.
abbrev pub put : Table → Bool → Option Ctype → List PathStep → CellList → CellList → CellList
put table marked t [] value cells = listed value
put table marked t (step ∷ rest) value cells =
    cond (goes_on t step cells)
    (below step cells
    ++ prefixed step (put table marked (part_below table t step) rest value (under step cells))
    ++ above step cells)
    (prefixed step
    (put table marked (part_below table t step) rest value (lost table marked (part_below table t step))))

-- what stands under a place where a member that isn't active lies on the way, and else at its end
abbrev pub replaced : Table → Bool → Option Ctype → List PathStep → CellList → CellList
replaced table marked t [] value = listed value
replaced table marked t (step ∷ rest) value =
    prefixed step
    (put table marked (part_below table t step) rest value (lost table marked (part_below table t step)))
