use Rattle.std.proofs.Common.{ℕ, ◌+◌, length, ap, arith}
use Rattle.sol_model.specs.Families.{members}
use Rattle.call_graph.specs.row_members.Members.{members_in}
use Rattle.unit_report.specs.report_text.Report.{has_set}
use Rattle.gen_summary.proofs.Counting.{counted_more}
use Rattle.gen_summary.proofs.texts.member_count.Goals as goal

pub loop-location-preserved : goal.loop-location-preserved
loop-location-preserved c = record {
  counted = counted_more (λ (location : ℕ). length (members_in c.args.system.now (members c.args.rows.now) location)) (has_set c.args.space.now) c.loop-location.location c.loop-location.count _
      c.loop-location.invariant.counted (ap (λ (k : ℕ). c.loop-location.count + k) c.in_ok-more.ensures.members);
  few = omega arith;
}
