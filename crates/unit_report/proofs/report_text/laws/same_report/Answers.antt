use Rattle.std.proofs.Common.{◌≡◌, subst}
use Rattle.sol_model.specs.Families.{Family}
use Rattle.unit_report.specs.report_text.Report.{IsReport}
use Rattle.unit_report.proofs.report_text.laws.same_report.Goals as goal

pub returns : goal.returns
returns c = λ space names system F G text same is.
    let path : F ≡ G = λ i row location. same row location i in
    subst (λ (H : Family). IsReport space names system H text) path is
