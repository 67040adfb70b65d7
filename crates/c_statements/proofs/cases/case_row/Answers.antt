use Rattle.std.proofs.Common.{Err, rules, to_z-of_z, FitsSigned, sym, subst}
use Rattle.std.specs.Prelude.{ℤ}
use Rattle.std.specs.Int.{w128}
use Rattle.c_senses.specs.Sense.{sense_in}
use Rattle.c_senses.specs.Statements as spec
use Rattle.c_results.specs.Standing.{senses_made}
use Rattle.tree_reads.specs.Sources.{source_in}
use Rattle.c_senses.specs.Given.{◌>>=◌}
use Rattle.core_nodes.specs.Standing.{core_at, Made}
use Rattle.core_nodes.proofs.Failing.{fails, follows, made_same}
use Rattle.c_statements.proofs.Numbering.{no_constant, no_switch, with_switch}
use Rattle.c_statements.proofs.cases.case_row.Goals as goal

pub returns-in-Err-clause-made : goal.returns-in-Err-clause-made
returns-in-Err-clause-made c = λ w uses knows are.
    let s = source_in c.args.syntax.now uses in
    let sense = sense_in (senses_made c.args.unit.now c.args.results.now) in
    no_constant w s sense c.args.at c.args.children.now c.args.unit.now c.in-Some.part c.in-Err.fault c.in-Some.ensures (c.in-Err.ensures.value w uses knows)

pub returns-in_default-nearest_above-clause-made : goal.returns-in_default-nearest_above-clause-made
returns-in_default-nearest_above-clause-made c = λ w uses knows are.
    let s = source_in c.args.syntax.now uses in
    let sense = sense_in (senses_made c.args.unit.now c.args.results.now) in
    no_switch w s sense c.args.at c.args.children.now c.in-Some.part c.in-Ok.number c.in-Some.ensures (c.in-Ok.ensures.value w uses knows) c.in_default-nearest_above.ensures.nearest

pub returns-in-Err-body-clause-made : goal.returns-in-Err-body-clause-made
returns-in-Err-body-clause-made c = λ w uses knows are.
    let s = source_in c.args.syntax.now uses in
    let u = c.args.unit.now in
    let sense = sense_in (senses_made u c.args.results.now) in
    let at = c.args.at in
    let children = c.args.children.now in
    let body = spec.body_of w s sense at (spec.statements_among w s sense children) in
    made_same u (Err c.in-Err-body.fault) (body >>= (λ b. spec.case_in w s sense at c.in-Some-nearest_above.switch b c.in-Ok.number)) (spec.case_row w s sense at children)
    (sym (with_switch w s sense at children c.in-Some.part c.in-Ok.number c.in-Some-nearest_above.switch c.in-Some.ensures (c.in-Ok.ensures.value w uses knows) c.in-Some-nearest_above.ensures.nearest))
    (fails u u c.in-Err-body.fault body (λ b. spec.case_in w s sense at c.in-Some-nearest_above.switch b c.in-Ok.number) (c.in-Err-body.ensures.made w))

pub returns-clause-made : goal.returns-clause-made
returns-clause-made c = λ w uses knows are.
    let s = source_in c.args.syntax.now uses in
    let u = c.args.unit.now in
    let sense = sense_in (senses_made u c.args.results.now) in
    let at = c.args.at in
    let children = c.args.children.now in
    let v = c.case_in.new.unit in
    let switch = c.in-Some-nearest_above.switch in
    let body = spec.body_of w s sense at (spec.statements_among w s sense children) in
    let fits : FitsSigned w128 c.in-Ok.number = search rules in
    let made = subst (λ (z : ℤ). Made v c.case_in.result (spec.case_in w s sense at switch (core_at u c.in-Ok-body.node) z)) (to_z-of_z fits) (c.case_in.ensures.made w uses knows are) in
    made_same v c.case_in.result (body >>= (λ b. spec.case_in w s sense at switch b c.in-Ok.number)) (spec.case_row w s sense at children)
    (sym (with_switch w s sense at children c.in-Some.part c.in-Ok.number switch c.in-Some.ensures (c.in-Ok.ensures.value w uses knows) c.in-Some-nearest_above.ensures.nearest))
    (follows u v c.in-Ok-body.node c.case_in.result body (λ b. spec.case_in w s sense at switch b c.in-Ok.number) (c.in-Ok-body.ensures.made w) made)
