use Rattle.std.proofs.Common.{◌≡◌, map}
use Rattle.std.specs.List.{range_with_len}
use Rattle.c_types.specs.Table.{type_of}
use Rattle.stop_places.specs.Loose.{leads_to_array}
use Rattle.stop_places.proofs.tables.led_to_arrays.Given as goal

abbrev pub invariant-loop-id : goal.invariant-loop-id
invariant-loop-id l = l.leads.items ≡ map (λ i. leads_to_array (type_of l.types i)) (range_with_len 0 l.id)
