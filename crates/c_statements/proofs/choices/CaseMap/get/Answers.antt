use Rattle.std.proofs.Common.{◌∙◌, ap, to_z-of_z}
use Rattle.c_statements.specs.Labels.{case_at}
use Rattle.c_statements.proofs.choices.CaseMap.get.Goals as goal

pub returns : goal.returns
returns c =
    let found = simp (to_z-of_z c.ranges.number) at c.get.ensures.value in
    c.copied.ensures ∙ (found ∙ ap (λ es. case_at es c.args.switch c.args.number) c.self.view_is)
