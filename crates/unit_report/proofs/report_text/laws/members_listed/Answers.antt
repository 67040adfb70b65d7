use Rattle.call_graph.proofs.row_members.Listed.{members_listed}
use Rattle.unit_report.proofs.report_text.laws.members_listed.Goals as goal

pub returns : goal.returns
returns c = λ system F row location known. members_listed system F row location known
