use Rattle.std.proofs.Common.{List, String, Global, ◌∙◌, subst}
use Rattle.sol_model.specs.Families.{members}
use Rattle.unit_report.specs.Reported.{IsReportAs}
use Rattle.unit_report.proofs.SharedProgram.{program_report}
use Rattle.unit_report.proofs.reporting.program_text.Goals as goal

pub returns : goal.returns
returns c = λ made is_made is_shared least.
    let space = c.args.space.now in
    let T = c.args.system.now in
    let F = members c.args.rows.now in
    let text = c.in_ok-text.text.items in
    program_report c.args.json c.args.program.now space made T F c.in_ok-names.names.items text is_made is_shared least
    (c.in_ok-names.ensures ∙ c.as_slice.ensures.value)
    (subst (λ (names : List (String Global)). IsReportAs c.args.json space names T F text) c.as_slice-2.ensures.value c.in_ok-text.ensures)
