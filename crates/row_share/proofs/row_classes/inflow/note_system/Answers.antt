use Rattle.std.proofs.Common.{arith}
use Rattle.row_share.proofs.row_classes.Flows.{inflows_done}
use Rattle.row_share.proofs.row_classes.inflow.note_system.Goals as goal

pub returns : goal.returns
returns c = inflows_done c.args.system.now c.note_all.new.inflows c.bar_locations.new.inflows c.bar_results.new.inflows c.bar_parameters.new.inflows
    (let s = c.note_all.auto.inflows in let z = c.requires.sized in omega arith)
    (λ row lt. c.note_all.ensures row (let s = c.note_all.auto.inflows in omega arith))
    c.bar_locations.ensures c.bar_results.ensures c.bar_parameters.ensures
