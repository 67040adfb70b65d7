use Rattle.std.proofs.Common.{◌≡◌, ◌*◌, ◌≤◌, length}
use Rattle.std.specs.List.{filter, range_with_len, sum_by}
use Rattle.sol_model.specs.Families.{members}
use Rattle.call_graph.specs.row_members.Members.{members_in}
use Rattle.unit_report.specs.report_text.Report.{has_set}
use Rattle.gen_summary.proofs.texts.member_count.Given as goal

-- the members of the locations so far, of each at most as many as a number of 32 bits can say
abbrev pub invariant-loop-location : goal.invariant-loop-location
invariant-loop-location l = record {
  counted : l.count ≡ sum_by (λ location. length (members_in l.system (members l.rows) location)) (filter (has_set l.space) (range_with_len 0 l.location));
  few : l.count ≤ l.location * 4294967295;
}
