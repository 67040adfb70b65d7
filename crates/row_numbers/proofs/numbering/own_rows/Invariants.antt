use Rattle.std.proofs.Common.{◌≡◌, map}
use Rattle.std.specs.List.{range_with_len}
use Rattle.row_numbers.specs.Numbering.{own_row}
use Rattle.row_numbers.proofs.numbering.own_rows.Given as goal

abbrev pub invariant-loop-n : goal.invariant-loop-n
invariant-loop-n l = l.list.items ≡ map (own_row l.nodes l.starts) (range_with_len 0 l.n)
