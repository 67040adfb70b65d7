use Rattle.std.proofs.Common.{rules, true, false, ◌∙◌, ap, sym, ℤ, to_z-of_z, FitsSigned}
use Rattle.std.specs.Int.{w128}
use Rattle.c_senses.specs.Given.{Fits}
use Rattle.c_senses.specs.Sense.{IsValue}
use Rattle.c_senses.specs.Tags.{is_int}
use Rattle.c_tags.proofs.Enumerating.{of_value}
use Rattle.c_tags.proofs.enumerations.enumerator_of.Goals as goal

pub returns-then-is_int-clause-row : goal.returns-then-is_int-clause-row
returns-then-is_int-clause-row c = λ u w s sense at.
    let fits : FitsSigned w128 c.args.value = search rules in
    of_value w s sense at c.args.leaf c.args.value true (c.if-is_int.ensures w s sense ∙ ap (is_int w s sense) (to_z-of_z fits)) ∙ ap (λ (n : ℤ). Fits (IsValue n)) (sym (to_z-of_z fits) ∙ sym c.of.ensures)

pub returns-else-is_int-clause-row : goal.returns-else-is_int-clause-row
returns-else-is_int-clause-row c = λ u w s sense at.
    let fits : FitsSigned w128 c.args.value = search rules in
    of_value w s sense at c.args.leaf c.args.value false (c.if-is_int.ensures w s sense ∙ ap (is_int w s sense) (to_z-of_z fits))
