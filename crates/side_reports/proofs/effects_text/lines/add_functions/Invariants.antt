use Rattle.std.proofs.Common.{◌≡◌, ◌++◌, take}
use Rattle.sol_model.specs.Families.{members}
use Rattle.unit_report.specs.report_text.Report.{text_of}
use Rattle.side_reports.specs.effects_text.Effects.{lines_from}
use Rattle.side_reports.proofs.effects_text.lines.add_functions.Given as goal

-- the lines of the functions so far
abbrev pub invariant-loop-row : goal.invariant-loop-row
invariant-loop-row l = l.text.items ≡ l.initial.text.items ++ text_of (lines_from l.space l.system (members l.made.reads) (members l.made.writes) 0 (take l.row l.system.functions))
