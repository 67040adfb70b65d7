use Rattle.std.proofs.Common.{◌≤◌, [], length, arith}
use Rattle.sol_model.specs.Families.{members}
use Rattle.call_graph.proofs.Gaining.{calls_next, graph_of}
use Rattle.call_graph.proofs.Ordered.{one_list}
use Rattle.call_graph.proofs.whole.graph.Goals as goal

pub loop-number-preserved : goal.loop-number-preserved
loop-number-preserved c =
    calls_next c.args.system.now (members c.args.rows.now) c.call_at.result.now c.loop-number.number [] c.loop-number.edges.items c.add_call.new.edges.items
    c.call_at.ensures.value c.loop-number.invariant c.in_ok-add_call.ensures

pub returns-clause-graph : goal.returns-clause-graph
returns-clause-graph c =
    let all : length c.args.system.now.calls ≤ c.loop-number.number = (let end = c.len-number-end.ensures in let past = c.loop-number-test.false in omega arith) in
    graph_of c.args.system.now (members c.args.rows.now) c.loop-number.edges.items c.put_in_order.new.pairs.items c.loop-number.number all c.loop-number.invariant c.put_in_order.ensures.same c.put_in_order.ensures.ordered

pub returns-clause-only : goal.returns-clause-only
returns-clause-only c others other =
    let all : length c.args.system.now.calls ≤ c.loop-number.number = (let end = c.len-number-end.ensures in let past = c.loop-number-test.false in omega arith) in
    let made = graph_of c.args.system.now (members c.args.rows.now) c.loop-number.edges.items c.put_in_order.new.pairs.items c.loop-number.number all c.loop-number.invariant c.put_in_order.ensures.same c.put_in_order.ensures.ordered in
    one_list others c.put_in_order.new.pairs.items other.ordered made.ordered
    (λ pair h. (made.edges pair.0 pair.1).1 ((other.edges pair.0 pair.1).0 h))
    (λ pair h. (other.edges pair.0 pair.1).1 ((made.edges pair.0 pair.1).0 h))
