use Rattle.std.proofs.Common.{sym, ◌∙◌}
use Rattle.c_senses.specs.Sense.{sense_in}
use Rattle.c_results.specs.Standing.{senses_made}
use Rattle.tree_reads.specs.Sources.{source_in}
use Rattle.init_rows.proofs.RowLaws.{no_declarator, no_name, of_name, name_at, rowed_same}
use Rattle.init_rows.proofs.rows.init_row.Goals as goal

pub returns-in_default-initialised_by-clause-row : goal.returns-in_default-initialised_by-clause-row
returns-in_default-initialised_by-clause-row c = λ w uses told.
    let s = source_in c.args.scope.now.syntax.now uses in
    let sense = sense_in (senses_made c.args.unit.now c.args.scope.now.results.now) in
    no_declarator w s sense c.args.at c.in-Some.parent c.in-Some.ensures.parent c.if-not-is_a.ensures (c.in_default-initialised_by.ensures sense)

pub returns-in_default-declared_name-clause-row : goal.returns-in_default-declared_name-clause-row
returns-in_default-declared_name-clause-row c = λ w uses told.
    let s = source_in c.args.scope.now.syntax.now uses in
    let sense = sense_in (senses_made c.args.unit.now c.args.scope.now.results.now) in
    no_name w s sense c.args.at c.in-Some.parent c.in-Some.ensures.parent c.if-not-is_a.ensures c.in-Some-initialised_by.declarator (c.in-Some-initialised_by.ensures sense) (c.in_default-declared_name.ensures.name c.args.unit.now)

pub declared_row-requires-clause-leaf : goal.declared_row-requires-clause-leaf
declared_row-requires-clause-leaf c = c.in-Some-declared_name.ensures.within _ c.requires.named

pub returns-clause-row : goal.returns-clause-row
returns-clause-row c = λ w uses told.
    let s = source_in c.args.scope.now.syntax.now uses in
    let old = c.args.unit.now in
    let sense = sense_in (senses_made old c.args.scope.now.results.now) in
    let d = c.in-Some-initialised_by.declarator in
    let leaf = c.in-Some-declared_name.leaf in
    let by = c.in-Some-initialised_by.ensures sense in
    let name = c.in-Some-declared_name.ensures.name old in
    let said = told.holds leaf (name_at w s sense c.args.at c.in-Some.parent c.in-Some.ensures.parent c.if-not-is_a.ensures d by ∙ sym name) in
    rowed_same c.declared_row.new.unit c.declared_row.result _ _
    (of_name w s sense c.args.at c.in-Some.parent c.in-Some.ensures.parent c.if-not-is_a.ensures d by leaf name)
    (c.declared_row.ensures.row w uses told.list said)
