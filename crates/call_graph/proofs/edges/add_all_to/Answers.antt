use Rattle.std.proofs.Common.{◌≡◌, get_or, length, arith}
use Rattle.std.proofs.lemmas.List.Elements.{Contains-get_or}
use Rattle.call_graph.specs.Graph.{IsTo}
use Rattle.call_graph.proofs.Gaining.{gains_next, located_all}
use Rattle.call_graph.proofs.edges.add_all_to.Goals as goal

pub add_to-requires-clause-location : goal.add_to-requires-clause-location
add_to-requires-clause-location c = c.requires.held (get_or c.args.held.now c.loop-i.i 0) (Contains-get_or c.args.held.now c.loop-i.i 0 (let lt = c.loop-i-test.true in omega arith))

pub loop-i-preserved : goal.loop-i-preserved
loop-i-preserved c =
    gains_next c.args.edges.now.items c.loop-i.edges.items c.add_to.new.edges.items c.loop-i.i
    (λ k a b. IsTo c.args.system.now c.args.signature c.args.caller (get_or c.args.held.now k 0) a b) c.loop-i.invariant c.in_ok-add_to.ensures

pub returns : goal.returns
returns c =
    let all : c.loop-i.i ≡ length c.args.held.now = (let past = c.loop-i-test.false in let most = c.loop-i.auto.i-end in omega arith) in
    located_all c.args.held.now (IsTo c.args.system.now c.args.signature c.args.caller) c.loop-i.i c.args.edges.now.items c.loop-i.edges.items all c.loop-i.invariant
