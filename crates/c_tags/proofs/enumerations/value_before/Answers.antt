use Rattle.std.proofs.Common.{rules, ◌∙◌, ap, sym, to_z-of_z, FitsSigned}
use Rattle.std.specs.Int.{w128}
use Rattle.c_senses.specs.Sense.{sense_in}
use Rattle.c_senses.specs.Tags.{value_before}
use Rattle.c_results.specs.Standing.{senses_made}
use Rattle.c_tags.proofs.Enumerating.{before_some, before_other}
use Rattle.c_tags.proofs.enumerations.value_before.Goals as goal

pub returns-in-Some-value_at : goal.returns-in-Some-value_at
returns-in-Some-value_at c = λ u w s.
    let sense = sense_in (senses_made u c.args.results.now) in
    let fits : FitsSigned w128 c.in-Some-value_at.value = search rules in
    to_z-of_z fits ∙ (before_some w s sense c.in-Some.node c.in-Some-value_at.value (c.in-Some-value_at.ensures u) ∙ ap (value_before w s sense) (sym c.in-Some.is))

pub returns-in-None : goal.returns-in-None
returns-in-None c = λ u w s.
    let sense = sense_in (senses_made u c.args.results.now) in
    before_other w s sense c.in-Some.node (c.in-None.ensures u) ∙ ap (value_before w s sense) (sym c.in-Some.is)
