use Rattle.std.proofs.Common.{◌≡◌, ◌++◌, map, take}
use Rattle.unit_report.specs.report_text.Report.{edge_line, text_of}
use Rattle.unit_report.proofs.report_text.edges.add_edges.Given as goal

abbrev pub invariant-loop-pair : goal.invariant-loop-pair
invariant-loop-pair l = l.text.items ≡ l.initial.text.items ++ text_of (map (edge_line l.space l.system) (take l.pair-index l.pairs))
