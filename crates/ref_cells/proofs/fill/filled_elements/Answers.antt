use Rattle.std.proofs.Common.{ℕ, ◌++◌, List, ap, ◌∙◌, sym, subst}
use Rattle.c_types.specs.declared.term.PathStep.{PathStep}
use Rattle.c_types.specs.Table.{type_of}
use Rattle.ref_cells.specs.Cells.{CellList, seen, joined}
use Rattle.ref_cells.specs.Order.{IsOrdered}
use Rattle.ref_cells.specs.Values.{elements, filled, filled_by, filled_to}
use Rattle.ref_cells.proofs.Fills.{joined_none}
use Rattle.ref_cells.proofs.Unders.{seen_none}
use Rattle.ref_cells.proofs.Ordered.{ordered_elements, filled_ordered}
use Rattle.ref_cells.proofs.fill.filled_elements.Goals as goal

pub fill_elements-requires-clause-ordered : goal.fill_elements-requires-clause-ordered
fill_elements-requires-clause-ordered c = subst IsOrdered (sym (seen_none c.args.cells.now)) c.requires.ordered

pub returns-clause-cells : goal.returns-clause-cells
unfolding filled
returns-clause-cells c =
    let table = c.args.filling.now.types.now in
    let marked = c.args.filling.now.marked in
    let t = type_of table c.args.of.0 in
    let all = λ (levels : ℕ). elements (filled_by table marked (filled_to table marked levels) t) c.args.n (seen 0 c.args.cells.now) in
    c.in_ok-fill_elements.ensures.cells
    ∙ ap (λ (xs : CellList). xs ++ joined c.new-front.result.items (all c.from-levels.result)) c.new-out.ensures.items
    ∙ ap (λ (p : List PathStep). joined p (all c.from-levels.result)) c.new-front.ensures.items
    ∙ joined_none (all c.from-levels.result)
    ∙ ap all (c.from-levels.ensures ∙ c.tag_count.ensures)
    ∙ ap (elements (filled_by table marked (filled_to table marked table.tags) t) c.args.n) (seen_none c.args.cells.now)

pub returns-clause-ordered : goal.returns-clause-ordered
returns-clause-ordered c =
    let table = c.args.filling.now.types.now in
    let marked = c.args.filling.now.marked in
    let t = type_of table c.args.of.0 in
    subst IsOrdered (sym (returns-clause-cells c)) (ordered_elements (filled table marked t) (filled_ordered table marked t) c.args.n c.args.cells.now)
