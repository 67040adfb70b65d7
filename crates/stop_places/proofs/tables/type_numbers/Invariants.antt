use Rattle.std.proofs.Common.{◌≡◌, map}
use Rattle.std.specs.List.{range_with_len}
use Rattle.c_types.specs.Table.{type_of}
use Rattle.row_numbers.specs.Numbers.{type_number}
use Rattle.stop_places.proofs.tables.type_numbers.Given as goal

abbrev pub invariant-loop-id : goal.invariant-loop-id
invariant-loop-id l = l.numbers.items ≡ map (λ i. type_number (type_of l.types i)) (range_with_len 0 l.id)
