use Rattle.std.proofs.Common.{◌≡◌, ℕ, List, map, take, length, IfSome}
use Rattle.text_units.specs.Answers.{names_of, told_units}
use Rattle.report_cli.proofs.reading.read_units.Given as goal

-- what was read is that of the told texts of the words so far
abbrev pub invariant-loop-number : goal.invariant-loop-number
invariant-loop-number g l = record {
  read : IfSome (told_units (g.U.Units.text l.fn.units) (take l.number (names_of l.names))) (λ told. l.texts.items ≡ map (λ unit. take l.limit unit.1) told);
  count : length l.texts.items ≡ l.number;
  texts : (other : List ℕ) → g.U.Units.text l.units other ≡ g.U.Units.text l.fn.units other;
  steady : (other : List ℕ) → g.U.Units.faults l.units other ≡ g.U.Units.faults l.fn.units other;
}
