use Rattle.std.proofs.Common.{◌≤◌, length, arith}
use Rattle.sol_model.specs.Families.{members}
use Rattle.call_graph.proofs.Gaining.{effects_next, effects_all}
use Rattle.call_graph.proofs.edges.add_back_by.Goals as goal

pub loop-i-preserved : goal.loop-i-preserved
loop-i-preserved c =
    effects_next c.args.system.now (members c.args.rows.now) c.args.call.now c.args.function.now c.effect_at-effect.result c.args.library c.loop-i.i c.args.edges.now.items c.loop-i.edges.items c.add_back_in.new.edges.items
    c.effect_at-effect.ensures c.loop-i.invariant c.in_ok-add_back_in.ensures

pub returns : goal.returns
returns c =
    let all : length c.args.function.now.effects ≤ c.loop-i.i = (let end = c.len-i-end.ensures in let past = c.loop-i-test.false in omega arith) in
    effects_all c.args.system.now (members c.args.rows.now) c.args.call.now c.args.function.now c.args.library c.loop-i.i c.args.edges.now.items c.loop-i.edges.items all c.loop-i.invariant
