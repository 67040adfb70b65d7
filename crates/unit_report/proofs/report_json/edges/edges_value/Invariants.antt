use Rattle.std.proofs.Common.{◌≡◌, map, take}
use Rattle.serde_json.specs.View.{view}
use Rattle.unit_report.specs.report_json.Json.{edge_value}
use Rattle.unit_report.proofs.report_json.edges.edges_value.Given as goal

abbrev pub invariant-loop-pair : goal.invariant-loop-pair
invariant-loop-pair l = map view l.list.items ≡ map (edge_value l.space l.system) (take l.pair-index l.pairs)
