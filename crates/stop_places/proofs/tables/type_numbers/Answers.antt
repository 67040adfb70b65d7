use Rattle.c_types.specs.Table.{type_of}
use Rattle.row_numbers.specs.Numbers.{type_number}
use Rattle.stop_places.proofs.Pushed.{map_pushed}
use Rattle.stop_places.proofs.tables.type_numbers.Goals as goal

pub loop-id-preserved : goal.loop-id-preserved
loop-id-preserved c =
    map_pushed (λ i. type_number (type_of c.args.types.now i)) c.loop-id.id c.loop-id.numbers.items c.push.new.self.items c.number_after-number.result
    c.loop-id.invariant c.in_ok-push.ensures.items c.number_after-number.ensures
