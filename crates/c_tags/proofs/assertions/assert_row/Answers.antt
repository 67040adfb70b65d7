use Rattle.std.proofs.Common.{rules, true, false, ◌∙◌, ap, ℤ, pos, to_z-of_z, FitsSigned}
use Rattle.std.specs.Int.{w128}
use Rattle.std.specs.Ordering.{int_eq}
use Rattle.c_senses.specs.Sense.{sense_in}
use Rattle.c_results.specs.Standing.{senses_made}
use Rattle.tree_reads.specs.Sources.{source_in}
use Rattle.c_tags.proofs.Asserting.{assert_value, assert_fault}
use Rattle.c_tags.proofs.assertions.assert_row.Goals as goal

pub returns-then-is_zero-clause-row : goal.returns-then-is_zero-clause-row
returns-then-is_zero-clause-row c = λ w uses k.
    let s = source_in c.args.syntax.now uses in
    let sense = sense_in (senses_made c.args.unit.now c.args.results.now) in
    let fits : FitsSigned w128 c.in-Ok.value = search rules in
    assert_value w s sense c.args.at c.in-Some.expression c.in-Ok.value true c.in-Some.ensures (c.in-Ok.ensures.value w uses k) (c.if-is_zero.ensures ∙ ap (λ (z : ℤ). int_eq z (pos 0)) (to_z-of_z fits))

pub returns-else-is_zero-clause-row : goal.returns-else-is_zero-clause-row
returns-else-is_zero-clause-row c = λ w uses k.
    let s = source_in c.args.syntax.now uses in
    let sense = sense_in (senses_made c.args.unit.now c.args.results.now) in
    let fits : FitsSigned w128 c.in-Ok.value = search rules in
    assert_value w s sense c.args.at c.in-Some.expression c.in-Ok.value false c.in-Some.ensures (c.in-Ok.ensures.value w uses k) (c.if-is_zero.ensures ∙ ap (λ (z : ℤ). int_eq z (pos 0)) (to_z-of_z fits))

pub returns-in-Err-clause-row : goal.returns-in-Err-clause-row
returns-in-Err-clause-row c = λ w uses k.
    let u = c.args.unit.now in
    let s = source_in c.args.syntax.now uses in
    let sense = sense_in (senses_made u c.args.results.now) in
    assert_fault w s sense c.args.at u c.in-Some.expression c.in-Err.fault c.in-Some.ensures (c.in-Err.ensures.value w uses k)
