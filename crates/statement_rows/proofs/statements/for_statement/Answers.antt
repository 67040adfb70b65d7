use Rattle.std.proofs.Common.{arith, ◌<◌, ◌≤◌, length, ap, ◌∙◌, subst}
use Rattle.c_consts.specs.Core.{Core}
use Rattle.c_senses.specs.Given.{Given}
use Rattle.c_senses.specs.Sense.{sense_in}
use Rattle.c_senses.specs.Statements as spec
use Rattle.core_nodes.specs.Standing.{Made}
use Rattle.c_results.specs.Standing.{senses_made}
use Rattle.tree_reads.specs.Sources.{source_in}
use Rattle.statement_rows.proofs.Running.{behind_two}
use Rattle.statement_rows.proofs.statements.for_statement.Goals as goal

pub returns-clause-made : goal.returns-clause-made
returns-clause-made c = λ w uses knows.
    let s = source_in c.args.syntax.now uses in
    let u0 = c.args.unit.now in
    let u = c.for_row.new.unit in
    let sense = sense_in (senses_made u0 c.args.results.now) in
    let objects = c.in_ok-objects.ensures.objects u0 w uses ∙ ap (λ (x : spec.ForParts). spec.for_objects w s sense x.first) (c.for_parts-parts.ensures w sense) in
    let enough : 2 ≤ length c.args.children.now = c.if-children-lt2.false in
    let two : length c.args.children.now < 2 → ⊥ = λ (less : length c.args.children.now < 2). omega arith in
    subst (λ (g : Given Core). Made u c.for_row.result g) (behind_two w s sense c.args.at c.args.children.now two) (c.for_row.ensures.made w uses knows objects)
