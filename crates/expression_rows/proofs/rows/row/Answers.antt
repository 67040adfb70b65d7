use Rattle.std.proofs.Common.{◌∙◌, ℕ, List, sym, ap, subst}
use Rattle.c_senses.specs.Given.{Given}
use Rattle.c_senses.specs.Tree.{production_at, children_at}
use Rattle.c_senses.specs.Sense.{Sense, sense_in}
use Rattle.c_results.specs.Standing.{senses_made, Rowed}
use Rattle.tree_reads.specs.Sources.{source_in, source_read}
use Rattle.expression_rows.specs.Fitting.{FitsAround}
use Rattle.expression_rows.specs.Built.{built_row}
use Rattle.expression_rows.proofs.Readable.{row_whole}
use Rattle.expression_rows.proofs.rows.row.Goals as goal

pub returns-clause-built : goal.returns-clause-built
returns-clause-built c w uses k fit =
    let u = c.args.unit.now in
    let u1 = c.by_production.new.unit in
    let s = source_in c.args.syntax.now uses in
    let S = sense_in (senses_made u c.args.results.now) in
    let at = c.args.at in
    let p = c.production_of-production.result in
    let xs = c.children_of-children.result.now in
    let around = c.args.around.now in
    let there = subst (λ (q : ℕ). FitsAround w u s S q xs around) (sym c.production_of-production.ensures) (subst (λ (l : List ℕ). FitsAround w u s S (production_at s at) l around) (sym c.children_of-children.ensures) fit) in
    let given : FitsAround w u (source_read c.args.syntax.now) S p xs around = record { primary = there.primary; post = there.post } in
    let same = ap (λ (q : ℕ). built_row w s S q at xs) c.production_of-production.ensures ∙ ap (built_row w s S (production_at s at) at) c.children_of-children.ensures in
    subst (λ (g : Given Sense). Rowed u1 c.by_production.result g) same (c.by_production.ensures.built w k given)

pub returns-clause-row : goal.returns-clause-row
returns-clause-row c w uses k fit readable =
    let u1 = c.by_production.new.unit in
    let s = source_in c.args.syntax.now uses in
    let S = sense_in (senses_made c.args.unit.now c.args.results.now) in
    let at = c.args.at in
    subst (λ (g : Given Sense). Rowed u1 c.by_production.result g) (row_whole w s S (production_at s at) at (children_at s at) readable) (returns-clause-built c w uses k fit)
