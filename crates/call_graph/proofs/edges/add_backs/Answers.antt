use Rattle.std.proofs.Common.{◌≡◌, get_or, length, arith}
use Rattle.std.proofs.lemmas.List.Elements.{Contains-get_or}
use Rattle.sol_model.specs.Families.{members}
use Rattle.call_graph.specs.Graph.{IsBackAt}
use Rattle.call_graph.proofs.Gaining.{gains_next, located_all, backs_all}
use Rattle.call_graph.proofs.edges.add_backs.Goals as goal

pub add_backs_at-requires-clause-location : goal.add_backs_at-requires-clause-location
add_backs_at-requires-clause-location c =
    (c.requires.held (get_or c.args.held.now c.loop-i.i 0)).0 (Contains-get_or c.args.held.now c.loop-i.i 0 (let lt = c.loop-i-test.true in omega arith))

pub loop-i-preserved : goal.loop-i-preserved
loop-i-preserved c =
    gains_next c.args.edges.now.items c.loop-i.edges.items c.add_backs_at.new.edges.items c.loop-i.i
    (λ k a b. IsBackAt c.args.system.now (members c.args.rows.now) c.args.call.now (get_or c.args.held.now k 0) a b) c.loop-i.invariant c.in_ok-add_backs_at.ensures

pub returns : goal.returns
returns c =
    let S = c.args.system.now in
    let F = members c.args.rows.now in
    let all : c.loop-i.i ≡ length c.args.held.now = (let past = c.loop-i-test.false in let most = c.loop-i.auto.i-end in omega arith) in
    backs_all S F c.args.call.now c.args.held.now c.args.edges.now.items c.loop-i.edges.items c.requires.held
    (located_all c.args.held.now (IsBackAt S F c.args.call.now) c.loop-i.i c.args.edges.now.items c.loop-i.edges.items all c.loop-i.invariant)
