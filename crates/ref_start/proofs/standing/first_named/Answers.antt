use Rattle.core_tree.specs.Seen.{core_of}
use Rattle.ref_start.proofs.FirstInstances.{first_is}
use Rattle.ref_start.proofs.standing.first_named.Goals as goal

pub returns : goal.returns
returns c =
    first_is (core_of c.args.trees.now) c.args.standing.now c.args.n c.in_ok-key.ensures.0 c.in_ok-key.key
    c.in_ok-key.ensures.1 c.in_ok-key.ensures.2 c.first_of.result c.first_of.ensures
