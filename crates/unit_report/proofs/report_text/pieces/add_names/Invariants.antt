use Rattle.std.proofs.Common.{◌≡◌, ◌++◌, take}
use Rattle.unit_report.specs.report_text.Report.{names_of}
use Rattle.unit_report.proofs.report_text.pieces.add_names.Given as goal

abbrev pub invariant-loop-location : goal.invariant-loop-location
invariant-loop-location l = l.text.items ≡ l.initial.text.items ++ names_of l.space (take l.location-index l.locations)
