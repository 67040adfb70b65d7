use Rattle.std.proofs.Common.{not}
use Rattle.row_share.specs.share_laws.Renumbering.{new_row, renumbered, is_idle}
use Rattle.row_share.proofs.share_laws.Numbering.{keep_step, drop_step}
use Rattle.sol_model.specs.declared.system.Constraint.{Constraint}
use Rattle.std.proofs.Common.{◌∙◌, sym}
use Rattle.row_share.proofs.reducing.kept.Goals as goal
use Rattle.row_share.proofs.reducing.kept.Goals.{then-is_busy+in_ok-push, else-is_busy}

pub loop-i-preserved : goal.loop-i-preserved
loop-i-preserved c = elim c.if-is_busy.branch [
  | then-is_busy+in_ok-push w ↦ keep_step (renumbered (new_row c.args.row.now)) (λ (constraint : Constraint). not (is_idle constraint)) c.args.system.now.constraints c.loop-i.i c.constraint_at.result c.constraint_of-new.result c.loop-i.list c.if-is_busy.list
      c.constraint_at.ensures.value c.constraint_of-new.ensures (sym c.is_busy.ensures ∙ w.if-is_busy.true) c.loop-i.invariant (w.list-is ∙ w.in_ok-push.ensures.ok)
  | else-is_busy w ↦ drop_step (renumbered (new_row c.args.row.now)) (λ (constraint : Constraint). not (is_idle constraint)) c.args.system.now.constraints c.loop-i.i c.constraint_at.result c.constraint_of-new.result c.loop-i.list c.if-is_busy.list
      c.constraint_at.ensures.value c.constraint_of-new.ensures (sym c.is_busy.ensures ∙ w.if-is_busy.false) c.loop-i.invariant w.list-is
]
