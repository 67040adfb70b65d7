use Rattle.std.proofs.Common.{ℕ, List, [], sym, ◌∙◌, subst}
use Rattle.c_senses.specs.Tree.{children_at}
use Rattle.c_senses.specs.Sense.{sense_in}
use Rattle.c_senses.specs.Rows.{declaring_row}
use Rattle.c_senses.specs.Initialised as spec
use Rattle.c_results.specs.Standing.{senses_made, Rowed}
use Rattle.tree_reads.specs.Sources.{source_in, source_read}
use Rattle.init_rows.specs.Joined.{IsInitialPart}
use Rattle.init_rows.proofs.JoinedLaws.{is_designator}
use Rattle.init_rows.proofs.Own.{own_world, own_known, designator_rows, designator_named}
use Rattle.init_rows.proofs.joined.initial.Goals as goal

pub returns-clause-kept : goal.returns-clause-kept
returns-clause-kept c =
    let u = c.args.unit.now in
    let s = source_read c.args.scope.now.syntax.now in
    let sense = sense_in (senses_made u c.args.scope.now.results.now) in
    designator_rows (own_world u) s sense c.args.at u c.designator_row.result c.children_of-children.result.now (c.designator_row.ensures.row (own_world u) [] (own_known u))

pub returns-clause-named : goal.returns-clause-named
returns-clause-named c = λ count.
    let u = c.args.unit.now in
    let s = source_read c.args.scope.now.syntax.now in
    let sense = sense_in (senses_made u c.args.scope.now.results.now) in
    designator_named (own_world u) s sense c.args.at u c.designator_row.result c.children_of-children.result.now count (c.designator_row.ensures.row (own_world u) [] (own_known u))

pub returns-clause-row : goal.returns-clause-row
returns-clause-row c = λ w uses told.
    let u = c.args.unit.now in
    let s = source_in c.args.scope.now.syntax.now uses in
    let sense = sense_in (senses_made u c.args.scope.now.results.now) in
    let part = subst IsInitialPart (sym c.production_of-production.ensures) c.requires.part in
    let is = sym c.production_of-production.ensures ∙ is_designator c.production_of-production.result part c.if-production-eq-INIT.false c.if-production-eq-ITEMS.false in
    subst (λ (p : ℕ). Rowed u c.designator_row.result (declaring_row w s sense p c.args.at (children_at s c.args.at))) (sym is)
    (subst (λ (l : List ℕ). Rowed u c.designator_row.result (spec.designator_row w s sense c.args.at l)) c.children_of-children.ensures (c.designator_row.ensures.row w uses told.list.told.knows))
