use Rattle.std.proofs.Common.{rules, ◌≤◌, length, map}
use Rattle.serde_json.specs.View.{view}
use Rattle.sol_model.specs.Families.{members}
use Rattle.unit_report.specs.report_json.Json.{call_value}
use Rattle.unit_report.proofs.report_json.CallValues.{none_past}
use Rattle.unit_report.proofs.report_json.calls.add_numbered.Goals as goal

pub returns-then-number-len : goal.returns-then-number-len
returns-then-number-len c =
    let past : length c.args.system.now.calls ≤ c.args.number = search rules in
    none_past (call_value c.args.space.now c.args.names.now c.args.system.now (members c.args.rows.now)) c.args.system.now.calls c.args.number (map view c.args.list.now.items) past
