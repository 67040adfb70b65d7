use Rattle.std.proofs.Common.{arith, ◌≡◌, ◌∙◌, ◌+◌, length, length-append, ap}
use Rattle.tree_reads.specs.Sources.{source_in}
use Rattle.tree_reads.proofs.node_roles.Knowing.{role_more, roles_known}
use Rattle.tree_reads.proofs.node_roles.roles.roles_of.Goals as goal

pub loop-node-preserved : goal.loop-node-preserved
loop-node-preserved c =
    let roles = c.loop-node.roles.items in
    let more = c.in_ok-push.ensures.items in
    let long : length c.push.new.self.items ≡ length roles + 1 = ap length more ∙ length-append roles _ in
    record {
      long = omega (arith, long, c.loop-node.invariant.long);
      known = λ uses. role_more (source_in c.args.syntax.now uses) roles c.push.new.self.items c.role_of.result c.loop-node.node c.loop-node.invariant.long more (c.role_of.ensures uses) (c.loop-node.invariant.known uses);
    }

pub returns : goal.returns
returns c = λ uses.
    let all : c.loop-node.node ≡ length c.args.syntax.now.tree.now.nodes.items = omega arith in
    roles_known (source_in c.args.syntax.now uses) c.loop-node.roles.items c.loop-node.node c.loop-node.invariant.long all (c.loop-node.invariant.known uses)
