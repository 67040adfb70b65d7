use Rattle.std.proofs.Common.{◌<◌, length, arith}
use Rattle.std.proofs.lemmas.Option.{get_or_from_slice_get, slice_get_within}
use Rattle.row_share.specs.row_classes.Flowing.{inflow_at}
use Rattle.row_share.proofs.row_classes.Flows.{note_step}
use Rattle.row_share.proofs.row_classes.inflow.note_all.Goals as goal

pub loop-i-preserved : goal.loop-i-preserved
loop-i-preserved c row lt =
    let small : row < length c.loop-i.inflows = (let s = c.note.auto.inflows in omega arith) in
    note_step c.args.system.now.constraints c.loop-i.i row c.constraint_at.result (inflow_at c.loop-i.inflows row) (inflow_at c.note.new.inflows row)
    (slice_get_within c.args.system.now.constraints c.loop-i.i c.constraint_at.result c.constraint_at.ensures.value)
    (get_or_from_slice_get c.args.system.now.constraints c.loop-i.i c.constraint_at.result c.constraint_at.result c.constraint_at.ensures.value)
    (c.note.ensures row small) (c.loop-i.invariant row small)
