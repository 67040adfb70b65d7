use Rattle.std.proofs.Common.{◌≡◌, ◌++◌, map}
use Rattle.std.specs.BTreeMap.{btree_map_len}
use Rattle.serde_json.specs.View.{view}
use Rattle.sol_model.specs.Families.{members}
use Rattle.unit_report.specs.report_text.Report.{calls_at}
use Rattle.unit_report.specs.report_json.Json.{call_value}
use Rattle.unit_report.proofs.report_json.calls.placed_value.Given as goal

abbrev pub invariant-loop-number : goal.invariant-loop-number
invariant-loop-number l =
    map view l.list.items ++ map (call_value l.space l.names l.system (members l.rows)) (calls_at l.system.calls l.placed.entries)
    ≡ map (call_value l.space l.names l.system (members l.rows)) (calls_at l.system.calls l.initial.placed.entries)

abbrev pub decreases-loop-number : goal.decreases-loop-number
decreases-loop-number l = btree_map_len l.placed
