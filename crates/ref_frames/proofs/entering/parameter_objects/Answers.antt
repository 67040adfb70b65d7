use Rattle.core_tree.specs.Seen.{core_of}
use Rattle.ref_frames.proofs.Arguments.{objects_arguments}
use Rattle.ref_frames.proofs.entering.parameter_objects.Goals as goal

pub returns-then-k-arguments : goal.returns-then-k-arguments
returns-then-k-arguments c =
    objects_arguments (core_of c.args.trees.now) c.args.parameters.now c.args.arguments.now c.loop-k.k c.loop-k.fresh _ c.if-k-arguments.true c.loop-k.invariant
