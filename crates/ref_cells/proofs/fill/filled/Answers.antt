use Rattle.std.proofs.Common.{ℕ, ◌++◌, List, ap, ◌∙◌, sym, subst}
use Rattle.ref_cells.specs.Order.{IsOrdered}
use Rattle.ref_cells.proofs.Ordered.{filled_ordered}
use Rattle.c_types.specs.declared.term.PathStep.{PathStep}
use Rattle.c_types.specs.Table.{type_of}
use Rattle.ref_cells.specs.Cells.{CellList, seen, joined}
use Rattle.ref_cells.specs.Values.{filled, filled_by, filled_to}
use Rattle.ref_cells.proofs.Fills.{joined_none}
use Rattle.ref_cells.proofs.fill.filled.Goals as goal

pub returns-clause-cells : goal.returns-clause-cells
unfolding filled
returns-clause-cells c =
    let table = c.args.filling.now.types.now in
    let marked = c.args.filling.now.marked in
    let t = type_of table c.args.ty.0 in
    let cells = seen c.args.depth c.args.cells.now in
    c.in_ok-fill.ensures.cells
    ∙ ap (λ (xs : CellList). xs ++ joined c.new-front.result.items (filled_by table marked (filled_to table marked c.from-levels.result) t cells)) c.new-out.ensures.items
    ∙ ap (λ (p : List PathStep). joined p (filled_by table marked (filled_to table marked c.from-levels.result) t cells)) c.new-front.ensures.items
    ∙ joined_none (filled_by table marked (filled_to table marked c.from-levels.result) t cells)
    ∙ ap (λ (n : ℕ). filled_by table marked (filled_to table marked n) t cells) (c.from-levels.ensures ∙ c.tag_count.ensures)

pub returns-clause-ordered : goal.returns-clause-ordered
returns-clause-ordered c =
    subst IsOrdered (sym (returns-clause-cells c)) (filled_ordered c.args.filling.now.types.now c.args.filling.now.marked (type_of c.args.filling.now.types.now c.args.ty.0) (seen c.args.depth c.args.cells.now))
