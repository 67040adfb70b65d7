use Rattle.std.proofs.Common.{◌∙◌, sym}
use Rattle.lib_summaries.proofs.Found.{passed, met, none_left}
use Rattle.lib_summaries.proofs.table.find_in.Goals as goal

pub loop-number-preserved : goal.loop-number-preserved
loop-number-preserved c =
    c.loop-number.invariant ∙ passed c.args.rows.now c.loop-number.number _ c.args.name.now c.loop-number-test.true (sym c.eq.ensures ∙ c.if-eq.false)

pub returns-then-eq : goal.returns-then-eq
returns-then-eq c =
    c.loop-number.invariant ∙ met c.args.rows.now c.loop-number.number _ c.args.name.now c.loop-number-test.true (sym c.eq.ensures ∙ c.if-eq.true)

pub returns : goal.returns
returns c = c.loop-number.invariant ∙ none_left c.args.rows.now c.loop-number.number c.args.name.now c.loop-number-test.false
