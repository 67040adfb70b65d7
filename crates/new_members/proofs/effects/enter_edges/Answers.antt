use Rattle.std.proofs.Common.{arith}
use Rattle.sol_model.specs.Families.{members}
use Rattle.sol_model.specs.Rules.{EffectEdge}
use Rattle.new_members.proofs.Through.{through_none, through_next, through_all}
use Rattle.new_members.proofs.effects.enter_edges.Goals as goal

pub loop-i-init : goal.loop-i-init
loop-i-init c = through_none c.args.function.now.effects (EffectEdge c.args.system.now (members c.args.rows.now) c.args.call.now c.args.number) c.args.pairs.now.items

pub loop-i-preserved : goal.loop-i-preserved
loop-i-preserved c =
    through_next c.args.function.now.effects (EffectEdge c.args.system.now (members c.args.rows.now) c.args.call.now c.args.number) c.args.pairs.now.items c.loop-i.pairs.items c.enter_effect.new.pairs.items c.loop-i.i c.effect_at.result c.loop-i.invariant c.effect_at.ensures c.in_ok-enter_effect.ensures

pub returns : goal.returns
returns c =
    let end = c.len-i-end.ensures in
    let past = c.loop-i-test.false in
    through_all c.args.function.now.effects (EffectEdge c.args.system.now (members c.args.rows.now) c.args.call.now c.args.number) c.args.pairs.now.items c.loop-i.pairs.items c.loop-i.i (omega arith) c.loop-i.invariant
