use Rattle.std.proofs.Common.{◌≡◌, ◌++◌, map}
use Rattle.std.specs.BTreeMap.{btree_map_len}
use Rattle.sol_model.specs.Families.{members}
use Rattle.unit_report.specs.report_text.Report.{call_line, calls_at, text_of}
use Rattle.unit_report.proofs.report_text.calls.add_placed.Given as goal

abbrev pub invariant-loop-number : goal.invariant-loop-number
invariant-loop-number l =
    l.text.items ++ text_of (map (call_line l.space l.names l.system (members l.rows)) (calls_at l.system.calls l.placed.entries))
    ≡ l.initial.text.items ++ text_of (map (call_line l.space l.names l.system (members l.rows)) (calls_at l.system.calls l.initial.placed.entries))

abbrev pub decreases-loop-number : goal.decreases-loop-number
decreases-loop-number l = btree_map_len l.placed
