use Rattle.std.proofs.Common.{◌≡◌, map}
use Rattle.std.specs.List.{range_with_len}
use Rattle.row_numbers.specs.Setting.{start_at}
use Rattle.row_numbers.proofs.numbering.starts.Given as goal

abbrev pub invariant-loop-width : goal.invariant-loop-width
invariant-loop-width l = (l.next ≡ start_at l.first l.widths l.width-index) × (l.list.items ≡ map (start_at l.first l.widths) (range_with_len 0 l.width-index))
