use Rattle.mod_ref.proofs.Rising.{spreads_then}
use Rattle.mod_ref.proofs.spreading.spread.Goals as goal

pub returns-then-not-pass-clause-spreads : goal.returns-then-not-pass-clause-spreads
returns-then-not-pass-clause-spreads c = spreads_then c.args.ways.now c.args.rows.now c.loop-functions.rows c.pass.new.rows c.loop-functions.invariant c.pass.ensures.spreads

pub returns-then-not-pass-clause-closed : goal.returns-then-not-pass-clause-closed
returns-then-not-pass-clause-closed c = c.pass.ensures.closed c.if-not-pass.true

pub loop-functions-preserved : goal.loop-functions-preserved
loop-functions-preserved c = spreads_then c.args.ways.now c.args.rows.now c.loop-functions.rows c.pass.new.rows c.loop-functions.invariant c.pass.ensures.spreads
