use Rattle.std.proofs.Common.{rules, ◌∙◌}
use Rattle.unit_report.proofs.report_text.Written.{written_on, rest_is}
use Rattle.unit_report.proofs.report_text.printing.write_text.Goals as goal

pub loop-at-preserved : goal.loop-at-preserved
loop-at-preserved g c = record {
  within = search rules;
  written = written_on _ _ _ c.args.text.now _ c.loop-at.at c.in-Ok.count c.in-Ok.ensures.taken (rest_is c.args.text.now c.loop-at.at c.loop-at.invariant.within) c.loop-at.invariant.written;
  steady = c.in-Ok.ensures.steady ∙ c.loop-at.invariant.steady;
}
