use Rattle.std.proofs.Common.{ℕ, ◌+◌, sym, subst, ap, ◌∙◌, drop, filter, length}
use Rattle.ref_cells.specs.Cells.{CellList, seen, is_below}
use Rattle.ref_cells.specs.Order.{IsOrdered}
use Rattle.ref_cells.proofs.Unders.{ordered_drop, under_cut, begins_cut, above_cut, ordered_under, part_of, cut_past}
use Rattle.ref_cells.proofs.order.part_under.Goals as goal

pub before-requires : goal.before-requires
before-requires c =
    subst (λ (xs : CellList). IsOrdered (seen c.args.depth xs)) (sym c.from-rest.ensures) (ordered_drop c.args.depth c.before-start.result c.args.cells.now c.requires)

pub returns-clause-cells : goal.returns-clause-cells
returns-clause-cells c =
    under_cut c.args.depth c.step_key-key.result c.args.step c.args.cells.now c.from-rest.result.now c.up_to.result.now c.step_key-key.ensures.key
    (c.before-start.ensures.rest ∙ ap (seen c.args.depth) (sym c.from-rest.ensures))
    (c.before-2.ensures.below ∙ ap (seen c.args.depth) (sym c.up_to.ensures))

pub returns-clause-ordered : goal.returns-clause-ordered
returns-clause-ordered c =
    subst IsOrdered (sym (returns-clause-cells c)) (ordered_under c.args.step (seen c.args.depth c.args.cells.now) c.requires)

pub returns-clause-part : goal.returns-clause-part
returns-clause-part c = part_of c.args.cells.now c.from-rest.result.now c.up_to.result.now c.before-start.result c.before-2.result c.before-start.ensures.within c.before-2.ensures.within c.from-rest.ensures c.up_to.ensures

pub returns-clause-below : goal.returns-clause-below
returns-clause-below c =
    sym c.before-start.ensures.below ∙ ap (λ (k : ℕ). filter (is_below k) (seen c.args.depth c.args.cells.now)) c.step_key-key.ensures.key

pub returns-clause-above : goal.returns-clause-above
returns-clause-above c =
    above_cut c.args.depth c.step_key-key.result c.args.step c.args.cells.now c.from-rest.result.now (drop (c.before-start.result + length c.up_to.result.now) c.args.cells.now) c.step_key-key.ensures.key
    (c.before-start.ensures.rest ∙ ap (seen c.args.depth) (sym c.from-rest.ensures))
    (c.before-2.ensures.rest ∙ ap (seen c.args.depth) (cut_past c.args.cells.now c.from-rest.result.now c.up_to.result.now c.before-start.result c.before-2.result c.before-2.ensures.within c.from-rest.ensures c.up_to.ensures))

pub returns-clause-begins : goal.returns-clause-begins
returns-clause-begins c =
    begins_cut c.args.depth c.step_key-key.result c.args.step c.args.cells.now c.from-rest.result.now c.up_to.result.now c.step_key-key.ensures.key
    (c.before-start.ensures.rest ∙ ap (seen c.args.depth) (sym c.from-rest.ensures))
    (c.before-2.ensures.below ∙ ap (seen c.args.depth) (sym c.up_to.ensures))
