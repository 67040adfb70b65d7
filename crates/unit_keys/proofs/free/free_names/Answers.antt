use Rattle.std.proofs.Common.{arith, ◌≡◌, ℕ, length, subst}
use Rattle.c_senses.specs.Sense.{sense_in}
use Rattle.c_results.specs.Standing.{senses_made}
use Rattle.tree_reads.specs.Sources.{source_in}
use Rattle.unit_keys.specs.Free.{AreFree}
use Rattle.unit_keys.proofs.free.free_names.Goals as goal

pub loop-node-preserved : goal.loop-node-preserved
loop-node-preserved c = record {
  taken = λ u uses roles. c.in_ok-free_more.ensures.taken u uses roles (c.loop-node.invariant.taken u uses roles);
  free = λ u uses roles. c.in_ok-free_more.ensures.free u uses roles (c.loop-node.invariant.taken u uses roles) (c.loop-node.invariant.free u uses roles);
}

pub returns : goal.returns
returns c = λ u uses roles.
    let all : c.loop-node.node ≡ length c.args.syntax.now.tree.now.nodes.items = omega arith in
    subst (λ (n : ℕ). AreFree (source_in c.args.syntax.now uses) (sense_in (senses_made u c.args.results.now)) c.loop-node.free n) all (c.loop-node.invariant.free u uses roles)
