use Rattle.std.proofs.Common.{arith, ◌≡◌, ℕ, List, [], ◌∷◌, get_or, drop, sym, subst, ◌∙◌}
use Rattle.pta_base.specs.declared.place.Place.{Place}
use Rattle.c_senses.specs.Expressions.{as_sense, list_row, named_primary}
use Rattle.c_senses.specs.Objects.{name_row}
use Rattle.c_senses.specs.Sense.{sense_in}
use Rattle.c_results.specs.Standing.{senses_made, Rowed}
use Rattle.tree_reads.specs.Sources.{source_read}
use Rattle.expression_rows.specs.Fitting.{IdentifierFits}
use Rattle.expression_rows.specs.c_rows.Lists.{FurtherFits}
use Rattle.expression_rows.proofs.c_rows.Steps.{two_of}
use Rattle.expression_rows.proofs.c_rows.Inner.{one_left}
use Rattle.expression_rows.proofs.c_rows.primaries.named.Goals as goal

pub returns-then-children-lt2-clause-row : goal.returns-then-children-lt2-clause-row
returns-then-children-lt2-clause-row c w k fits =
    let u = c.args.unit.now in
    let u1 = c.name_row.new.unit in
    let s = source_read c.args.syntax.now in
    let sense = sense_in (senses_made u c.args.results.now) in
    let xs = c.args.children.now in
    let first = get_or xs 0 0 in
    let none = one_left xs c.requires.some c.if-children-lt2.true in
    let fit = subst (λ (l : List ℕ). IdentifierFits w u s sense first l c.args.around.now) none fits in
    let row = c.sensed.ensures.row u1 _ (c.name_row.ensures.made w (w.meaning first) fit) in
    subst (λ (l : List ℕ). Rowed u1 c.sensed.result (named_primary w s sense c.args.at first l)) (sym none)
    (subst (λ (p : Place). Rowed u1 c.sensed.result (as_sense (name_row w p c.args.at (w.meaning first)))) c.place_of-place.ensures row)

pub returns-clause-row : goal.returns-clause-row
returns-clause-row c w k fits =
    let u = c.args.unit.now in
    let u1 = c.list_row.new.unit in
    let s = source_read c.args.syntax.now in
    let sense = sense_in (senses_made u c.args.results.now) in
    let xs = c.args.children.now in
    let first = get_or xs 0 0 in
    let further = c.args.around.now.further in
    let more = two_of xs (omega (arith, c.if-children-lt2.false)) in
    let fit : FurtherFits w s sense (get_or xs 1 0 ∷ drop 2 xs) further = subst (λ (l : List ℕ). IdentifierFits w u s sense first l c.args.around.now) more fits in
    let rest : c.behind_first-rest.result.now ≡ get_or xs 1 0 ∷ drop 2 xs = c.behind_first-rest.ensures ∙ more in
    let row = c.list_row.ensures.row w k (subst (λ (l : List ℕ). FurtherFits w s sense l further) (sym rest) fit) in
    subst (λ (l : List ℕ). Rowed u1 c.list_row.result (named_primary w s sense c.args.at first l)) (sym more)
    (subst (λ (l : List ℕ). Rowed u1 c.list_row.result (list_row w s sense c.args.at first l)) rest row)
