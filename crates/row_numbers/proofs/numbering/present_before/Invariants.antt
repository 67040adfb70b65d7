use Rattle.std.proofs.Common.{◌≡◌, ◌≤◌, map}
use Rattle.std.specs.List.{range_with_len}
use Rattle.row_numbers.specs.Numbering.{present_before}
use Rattle.row_numbers.proofs.numbering.present_before.Given as goal

abbrev pub invariant-loop-found : goal.invariant-loop-found
invariant-loop-found l = (l.count ≡ present_before l.at l.found-index) × (l.count ≤ l.found-index) × (l.list.items ≡ map (present_before l.at) (range_with_len 0 l.found-index))
