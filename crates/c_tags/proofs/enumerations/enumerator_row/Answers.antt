use Rattle.std.proofs.Common.{arith, ◌<◌, length, subst}
use Rattle.std.proofs.lemmas.Grind.{common_steps}
use Rattle.c_senses.specs.Given.{Given}
use Rattle.c_senses.specs.Sense.{Sense, sense_in}
use Rattle.c_results.specs.Standing.{senses_made, Rowed}
use Rattle.tree_reads.specs.Sources.{source_in}
use Rattle.c_tags.proofs.Enumerating.{first_named}
use Rattle.c_tags.proofs.enumerations.enumerator_row.Goals as goal

pub returns-clause-row : goal.returns-clause-row
returns-clause-row c = λ w uses k.
    let u = c.args.unit.now in
    let s = source_in c.args.syntax.now uses in
    let sense = sense_in (senses_made u c.args.results.now) in
    let some : 0 < length c.args.children.now = grind (arith, common_steps, c.if-is_empty.ensures) in
    subst (λ (g : Given Sense). Rowed u c.enumerator_named.result g) (first_named w s sense c.args.at c.args.children.now _ some c.child_of-expression.ensures) (c.enumerator_named.ensures.row w uses k)
