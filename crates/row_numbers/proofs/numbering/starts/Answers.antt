use Rattle.std.proofs.Common.{arith, refl, ◌∙◌}
use Rattle.std.proofs.lemmas.Grind.{common_steps}
use Rattle.row_numbers.specs.Setting.{start_at}
use Rattle.row_numbers.proofs.NumberingLemmas.{map_more}
use Rattle.row_numbers.proofs.numbering.starts.Goals as goal

pub loop-width-preserved : goal.loop-width-preserved
loop-width-preserved c = (
  grind (arith, common_steps),
  c.in_ok-push.ensures.items ∙ (rw c.loop-width.invariant.1 (rw (map_more (start_at c.args.first c.args.widths.now) c.loop-width.width-index c.loop-width.next c.loop-width.invariant.0) refl)),
)
