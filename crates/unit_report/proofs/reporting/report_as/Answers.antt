use Rattle.std.proofs.Common.{Bool, IfOk, sym, subst}
use Rattle.sol_model.specs.Families.{members}
use Rattle.unit_report.specs.Reported.{IsReportAs}
use Rattle.unit_report.proofs.reporting.report_as.Goals as goal

pub returns-in-true : goal.returns-in-true
returns-in-true c =
    let P : Bool → Type 0 = λ json. IfOk c.json_report.result (λ text. IsReportAs json c.args.space.now c.args.names.now c.args.system.now (members c.args.rows.now) text.items) in
    subst P (sym c.in-true.is) c.json_report.ensures.report

pub returns-in-false : goal.returns-in-false
returns-in-false c =
    let P : Bool → Type 0 = λ json. IfOk c.report.result (λ text. IsReportAs json c.args.space.now c.args.names.now c.args.system.now (members c.args.rows.now) text.items) in
    subst P (sym c.in-false.is) c.report.ensures.report
