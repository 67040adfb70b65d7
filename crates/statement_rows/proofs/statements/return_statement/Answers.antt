use Rattle.std.proofs.Common.{List, sym, subst}
use Rattle.c_senses.specs.Sense.{Sense, sense_in}
use Rattle.c_senses.specs.Statements as spec
use Rattle.core_nodes.specs.Standing.{Made}
use Rattle.c_results.specs.Standing.{TypeSeen}
use Rattle.tree_reads.specs.Sources.{source_in}
use Rattle.core_nodes.proofs.Growing.{builds_on, knows_on}
use Rattle.c_results.proofs.Keeping.{mades_kept}
use Rattle.statement_rows.proofs.statements.return_statement.Goals as goal

pub returns-in-Ok-clause-builds : goal.returns-in-Ok-clause-builds
returns-in-Ok-clause-builds c = builds_on c.args.unit.now c.returned_type.new.unit c.return_row.new.unit c.in-Ok.ensures.builds c.return_row.ensures.builds

pub returns-in-Ok-clause-made : goal.returns-in-Ok-clause-made
returns-in-Ok-clause-made c = λ w uses knows.
    let s = source_in c.args.syntax.now uses in
    let u0 = c.args.unit.now in
    let u1 = c.returned_type.new.unit in
    let u2 = c.return_row.new.unit in
    let results = c.args.results.now in
    let at = c.args.at in
    let children = c.args.children.now in
    let kept = mades_kept u0 u1 c.in-Ok.ensures.builds results c.requires.results in
    let seen = subst (λ (ss : List Sense). TypeSeen u1 c.in-Ok.returned (spec.returned_type w s (sense_in ss) at)) (sym kept) (c.in-Ok.ensures.seen w uses) in
    let made = c.return_row.ensures.made w uses (knows_on w u0 u1 c.in-Ok.ensures.builds knows) seen in
    subst (λ (ss : List Sense). Made u2 c.return_row.result (spec.return_row w s (sense_in ss) at (spec.expression_in w s (sense_in ss) children))) kept made
