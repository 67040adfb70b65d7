use Rattle.std.proofs.Common.{◌∙◌, refl}
use Rattle.row_numbers.specs.Frame.{setting_in}
use Rattle.normal_form.specs.Assignments.{assignments_at}
use Rattle.normal_form.proofs.WholeLemmas.{flat_more}
use Rattle.normal_form.proofs.whole.assignments.Goals as goal

pub loop-n-preserved : goal.loop-n-preserved
loop-n-preserved c = c.in_ok-node.ensures ∙ rw (c.loop-n.invariant, flat_more (assignments_at (setting_in c.args.frame.now)) c.loop-n.n) refl
