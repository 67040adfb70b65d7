use Rattle.std.proofs.Common.{arith, rules, ◌≡◌, ◌+◌, ◌<◌, length, slice_get, Some, refl}
use Rattle.std.proofs.lemmas.Option.{slice_get_read}
use Rattle.carried_trees.proofs.literals.literals_of.Goals as goal

pub loop-node-preserved : goal.loop-node-preserved
loop-node-preserved c =
    let nodes = c.args.nodes.now in
    let i = c.loop-node.node-index in
    let within : i < length nodes = omega (arith, c.loop-node-test.true) in
    let there : slice_get nodes i ≡ Some c.node-item.result = slice_get_read nodes (length nodes) i c.node-item.result refl within c.node-item.is in
    let after : c.in-Some.after ≡ c.loop-node.at + 1 = search rules in
    record {
      at = omega (arith, after, c.loop-node.invariant.at);
      numbered = c.in_ok-note_node.ensures.numbered nodes c.args.from c.args.first i c.loop-node.invariant.numbered there c.loop-node.invariant.at;
    }
