use Rattle.std.proofs.Common.{ℕ, ◌↔◌, All, IsTrue, Option, subst}
use Rattle.c_types.specs.declared.term.TypeId.{TypeId}
use Rattle.ref_cells.specs.declared.cells.Cell.{Cell}
use Rattle.row_covers.specs.Cells.{CellBy}
use Rattle.row_covers.specs.Scene.{sets_over}
use Rattle.machine_covers.specs.Frames.{HandedAll}
use Rattle.machine_covers.proofs.frames.are_handed_covered.Goals as goal

pub returns : goal.returns
unfolding HandedAll
returns c =
    subst (λ (o : Option ℕ). IsTrue c.are_in_row.result ↔ All (λ (entry : TypeId × Cell). CellBy (sets_over c.args.scene.now) c.args.memory.now o entry.1) c.args.handed.now) c.outside_row.ensures
    c.are_in_row.ensures
