use Rattle.std.proofs.Common.{rules, sym, ap, ◌∙◌, ℤ, to_z-of_z, FitsSigned}
use Rattle.std.specs.Int.{w128}
use Rattle.c_senses.specs.Given.{Given, Fits, ◌>>=◌}
use Rattle.c_senses.specs.Constants.{constant_in}
use Rattle.c_senses.specs.Sense.{IsValue, sense_in}
use Rattle.c_results.specs.Standing.{senses_made}
use Rattle.tree_reads.specs.Sources.{source_in}
use Rattle.c_initials.proofs.PlacedLaws.{indexed, constant_refused}
use Rattle.c_initials.proofs.rows.designator_row.Goals as goal

pub returns-in-Ok-clause-row : goal.returns-in-Ok-clause-row
returns-in-Ok-clause-row c = λ w uses k.
    let u = c.args.unit.now in
    let s = source_in c.args.syntax.now uses in
    let sense = sense_in (senses_made u c.args.results.now) in
    let fits : FitsSigned w128 c.in-Ok.index = search rules in
    indexed w s sense c.args.at c.args.children.now _ c.in-Some.child (sym c.is_empty.ensures ∙ c.if-is_empty.false) c.if-not-has_sign.ensures (sym c.child_of.ensures ∙ c.in-Some.is)
    ∙ ap (λ (g : Given ℤ). g >>= (λ n. Fits (IsValue n))) (c.in-Ok.ensures.value w uses k) ∙ ap (λ (n : ℤ). Fits (IsValue n)) (sym (to_z-of_z fits) ∙ sym c.of.ensures)

pub returns-in-Err-clause-row : goal.returns-in-Err-clause-row
returns-in-Err-clause-row c = λ w uses k.
    let u = c.args.unit.now in
    let s = source_in c.args.syntax.now uses in
    let sense = sense_in (senses_made u c.args.results.now) in
    constant_refused u c.in-Err.fault (constant_in w s c.args.at (sense c.in-Some.child)) _
    (indexed w s sense c.args.at c.args.children.now _ c.in-Some.child (sym c.is_empty.ensures ∙ c.if-is_empty.false) c.if-not-has_sign.ensures (sym c.child_of.ensures ∙ c.in-Some.is))
    (c.in-Err.ensures.value w uses k)
