use Rattle.std.proofs.Common.{◌≡◌, ◌≤◌}
use Rattle.new_members.proofs.Bits.{Added}
use Rattle.new_members.proofs.words.take_row.Given as goal

abbrev pub invariant-loop-k : goal.invariant-loop-k
invariant-loop-k l = record {
  width : l.rows.width ≡ l.initial.rows.width;
  ordered : l.k ≤ l.end;
  added : Added l.initial.rows.width l.row l.k l.words l.initial.rows.words l.rows.words;
}
