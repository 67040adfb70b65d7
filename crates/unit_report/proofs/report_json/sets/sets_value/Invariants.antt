use Rattle.std.proofs.Common.{◌≡◌, map}
use Rattle.std.specs.List.{filter, range_with_len}
use Rattle.serde_json.specs.View.{view}
use Rattle.sol_model.specs.Families.{members}
use Rattle.unit_report.specs.report_text.Report.{has_set}
use Rattle.unit_report.specs.report_json.Json.{set_value}
use Rattle.unit_report.proofs.report_json.sets.sets_value.Given as goal

abbrev pub invariant-loop-location : goal.invariant-loop-location
invariant-loop-location l = map view l.list.items ≡ map (set_value l.space l.system (members l.rows)) (filter (has_set l.space) (range_with_len 0 l.location))
