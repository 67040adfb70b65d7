use Rattle.std.proofs.Common.{◌≡◌, ◌++◌, ◌≤◌, ◌-◌, length, take, option_map}
use Rattle.unit_report.proofs.report_text.printing.write_text.Given as goal

-- what was written is what the place is behind
abbrev pub invariant-loop-at : goal.invariant-loop-at
invariant-loop-at g l = record {
  within : l.at ≤ length l.text;
  written : g.O.Sink.written l.out ≡ option_map (λ before. before ++ take l.at l.text) (g.O.Sink.written l.fn.out);
  steady : g.O.Sink.faults l.out ≡ g.O.Sink.faults l.fn.out;
}

abbrev pub decreases-loop-at : goal.decreases-loop-at
decreases-loop-at g l = length l.text - l.at
