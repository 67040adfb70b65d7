use Rattle.c_types.specs.Table.{type_of}
use Rattle.stop_places.specs.Loose.{leads_to_array}
use Rattle.stop_places.proofs.Pushed.{map_pushed}
use Rattle.stop_places.proofs.tables.led_to_arrays.Goals as goal

pub loop-id-preserved : goal.loop-id-preserved
loop-id-preserved c =
    map_pushed (λ i. leads_to_array (type_of c.args.types.now i)) c.loop-id.id c.loop-id.leads.items c.push.new.self.items c.leads_after-lead.result
    c.loop-id.invariant c.in_ok-push.ensures.items c.leads_after-lead.ensures
