use Rattle.std.proofs.Common.{arith}
use Rattle.sol_model.specs.Rules.{EffectFact}
use Rattle.new_members.proofs.Through.{through_none, through_next, through_all}
use Rattle.new_members.proofs.effects.enter_facts.Goals as goal

pub loop-i-init : goal.loop-i-init
loop-i-init c = through_none c.args.function.now.effects (EffectFact c.args.call.now c.args.number) c.args.facts.now.items

pub loop-i-preserved : goal.loop-i-preserved
loop-i-preserved c =
    through_next c.args.function.now.effects (EffectFact c.args.call.now c.args.number) c.args.facts.now.items c.loop-i.facts.items c.enter_fresh.new.facts.items c.loop-i.i c.effect_at.result c.loop-i.invariant c.effect_at.ensures c.in_ok-enter_fresh.ensures

pub returns : goal.returns
returns c =
    let end = c.len-i-end.ensures in
    let past = c.loop-i-test.false in
    through_all c.args.function.now.effects (EffectFact c.args.call.now c.args.number) c.args.facts.now.items c.loop-i.facts.items c.loop-i.i (omega arith) c.loop-i.invariant
