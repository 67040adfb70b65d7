use Rattle.std.proofs.Common.{◌≡◌, take}
use Rattle.std.specs.List.{filter}
use Rattle.unit_report.specs.report_text.Report.{is_function}
use Rattle.unit_report.proofs.report_text.calls.functions_among.Given as goal

abbrev pub invariant-loop-location : goal.invariant-loop-location
invariant-loop-location l = l.list.items ≡ filter (is_function l.system l.signature) (take l.location-index l.locations)
