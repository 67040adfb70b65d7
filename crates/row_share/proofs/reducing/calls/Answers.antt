use Rattle.row_share.specs.share_laws.Renumbering.{new_row, renumbered_call}
use Rattle.row_share.proofs.share_laws.Numbering.{map_step}
use Rattle.row_share.proofs.reducing.calls.Goals as goal

pub loop-i-preserved : goal.loop-i-preserved
loop-i-preserved c = map_step (renumbered_call (new_row c.args.row.now)) c.args.system.now.calls c.loop-i.i c.call_at.result.now c.in_ok-call_of.field-0 c.loop-i.list c.push.new.self
    c.call_at.ensures.value c.in_ok-call_of.ensures c.loop-i.invariant c.in_ok-push.ensures.ok
