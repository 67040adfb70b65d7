use Rattle.std.proofs.Common.{◌≡◌, take}
use Rattle.side_reports.specs.whole_rows.Expanded.{words_of}
use Rattle.side_reports.proofs.whole_rows.words.words_of.Given as goal

-- the words of the rows so far
abbrev pub invariant-loop-row : goal.invariant-loop-row
invariant-loop-row l = l.words.items ≡ words_of l.rows (take l.row-index l.list)
