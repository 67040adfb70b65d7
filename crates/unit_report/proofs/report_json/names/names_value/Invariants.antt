use Rattle.std.proofs.Common.{◌≡◌, map, take}
use Rattle.serde_json.specs.View.{view}
use Rattle.unit_report.specs.report_json.Json.{name_value}
use Rattle.unit_report.proofs.report_json.names.names_value.Given as goal

abbrev pub invariant-loop-location : goal.invariant-loop-location
invariant-loop-location l = map view l.list.items ≡ map (name_value l.space) (take l.location-index l.locations)
