-- It was handed over before the step, or in it.
use Rattle.std.proofs.Common.{arith, ℕ, ◌-◌, ◌<◌, ◌≤◌, ◌≡◌, List, IfOk, ap, subst, ◌∙◌}
use Rattle.c_types.specs.declared.term.TypeId.{TypeId}
use Rattle.c_types.specs.Table.{type_of}
use Rattle.ref_cells.specs.declared.cells.Cell.{Cell}
use Rattle.ref_start.specs.Handed.{count_at, kept_cell}
use Rattle.ref_start.proofs.HandedSteps.{chosen_before, chosen_own}
use Rattle.ref_start.proofs.entries.handed_at.Goals as goal

pub returns-then-k-before : goal.returns-then-k-before
returns-then-k-before c =
    let table = c.args.types.now in
    let first = c.first_same-first.result.0 in
    let lt : c.args.k < count_at c.args.offer.now.kept.now.counts first = omega (arith, c.if-k-before.true, c.count_at-before.ensures) in
    subst (λ (x : Cell). IfOk c.kept_cell.result (λ cell. cell ≡ x))
    (chosen_before table c.args.ty.0 first (type_of table c.args.to.0) c.requires.pointer c.first_same-first.ensures
    c.args.offer.now.handed.now c.args.made.now.handed c.args.offer.now.kept.now c.args.made.now.kept c.requires.before c.requires.own c.args.k lt)
    c.kept_cell.ensures

pub returns-else-k-before : goal.returns-else-k-before
returns-else-k-before c =
    let table = c.args.types.now in
    let first = c.first_same-first.result.0 in
    let made = c.args.made.now in
    let le : count_at c.args.offer.now.kept.now.counts first ≤ c.args.k = omega (arith, c.if-k-before.false, c.count_at-before.ensures) in
    subst (λ (x : Cell). IfOk c.kept_cell-else-k-before.result (λ cell. cell ≡ x))
    (ap (λ (list : List (TypeId × Cell)). kept_cell list made.kept first (c.args.k - c.count_at-before.result)) c.as_slice.ensures
    ∙ (ap (λ (n : ℕ). kept_cell made.handed made.kept first (c.args.k - n)) c.count_at-before.ensures
    ∙ chosen_own table c.args.ty.0 first (type_of table c.args.to.0) c.requires.pointer c.first_same-first.ensures
    c.args.offer.now.handed.now made.handed c.args.offer.now.kept.now made.kept c.requires.before c.requires.own c.args.k le c.requires.k))
    c.kept_cell-else-k-before.ensures
