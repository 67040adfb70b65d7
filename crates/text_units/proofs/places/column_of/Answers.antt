use Rattle.std.proofs.Common.{arith}
use Rattle.text_units.proofs.Feeds.{column_first, column_next, few_columns}
use Rattle.text_units.proofs.places.column_of.Goals as goal

pub loop-number-init : goal.loop-number-init
loop-number-init c = record { column = column_first c.args.text.now; few = omega arith }

pub loop-number-preserved : goal.loop-number-preserved
loop-number-preserved c = record {
  column = column_next c.args.text.now c.loop-number.number c.loop-number.column _ c.is_line_feed.result c.loop-number.invariant.column c.is_line_feed.ensures c.column_after-column.ensures;
  few = few_columns c.loop-number.number c.loop-number.column _ c.is_line_feed.result c.loop-number.invariant.few c.column_after-column.ensures;
}
