use Rattle.std.proofs.Common.{arith}
use Rattle.text_units.proofs.Feeds.{line_first, line_next, few_lines}
use Rattle.text_units.proofs.places.line_of.Goals as goal

pub loop-number-init : goal.loop-number-init
loop-number-init c = record { line = line_first c.args.text.now; few = omega arith }

pub loop-number-preserved : goal.loop-number-preserved
loop-number-preserved c = record {
  line = line_next c.args.text.now c.loop-number.number c.loop-number.line _ c.is_line_feed.result c.loop-number.invariant.line c.is_line_feed.ensures c.line_after-line.ensures;
  few = few_lines c.loop-number.number c.loop-number.line _ c.is_line_feed.result c.loop-number.invariant.few c.line_after-line.ensures;
}
