use Rattle.std.proofs.Common.{arith}
use Rattle.sol_model.specs.Families.{members}
use Rattle.new_members.specs.News.{NewEdge}
use Rattle.new_members.proofs.Through.{through_none, through_next, through_all}
use Rattle.new_members.proofs.effects.renew_edges.Goals as goal

pub loop-i-init : goal.loop-i-init
loop-i-init c = through_none c.args.function.now.effects (NewEdge c.args.system.now (members c.args.rows.now) c.args.call.now c.args.number c.args.news.now.row c.args.news.now.new.now) c.args.pairs.now.items

pub loop-i-preserved : goal.loop-i-preserved
loop-i-preserved c =
    through_next c.args.function.now.effects (NewEdge c.args.system.now (members c.args.rows.now) c.args.call.now c.args.number c.args.news.now.row c.args.news.now.new.now) c.args.pairs.now.items c.loop-i.pairs.items c.renew_effect.new.pairs.items c.loop-i.i c.effect_at-effect.result c.loop-i.invariant c.effect_at-effect.ensures c.in_ok-renew_effect.ensures

pub returns : goal.returns
returns c =
    let end = c.len-i-end.ensures in
    let past = c.loop-i-test.false in
    through_all c.args.function.now.effects (NewEdge c.args.system.now (members c.args.rows.now) c.args.call.now c.args.number c.args.news.now.row c.args.news.now.new.now) c.args.pairs.now.items c.loop-i.pairs.items c.loop-i.i (omega arith) c.loop-i.invariant
