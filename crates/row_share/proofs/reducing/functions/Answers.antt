use Rattle.row_share.specs.share_laws.Renumbering.{new_row, renumbered_function}
use Rattle.row_share.proofs.share_laws.Numbering.{map_step}
use Rattle.row_share.proofs.reducing.functions.Goals as goal

pub loop-i-preserved : goal.loop-i-preserved
loop-i-preserved c = map_step (renumbered_function (new_row c.args.row.now)) c.args.system.now.functions c.loop-i.i c.function_at.result.now c.in_ok-function_of.field-0 c.loop-i.list c.push.new.self
    c.function_at.ensures.value c.in_ok-function_of.ensures c.loop-i.invariant c.in_ok-push.ensures.ok
