use Rattle.std.proofs.Common.{◌≡◌, false, List, IfOk, subst}
use Rattle.c_types.specs.declared.term.PathStep.{PathStep}
use Rattle.ref_cells.specs.declared.cells.Cell.TheVariants.{Pointer}
use Rattle.ref_mem.specs.Reads.{one_cell}
use Rattle.ref_start.proofs.standing.place_value.Goals as goal

pub returns : goal.returns
returns c = subst (λ (path : List PathStep). IfOk c.one.result (λ value. value ≡ one_cell (Pointer c.args.i path false))) c.new-path.ensures c.one.ensures
