use Rattle.std.proofs.Common.{◌≡◌, ◌++◌, map, drop}
use Rattle.c_types.specs.declared.key.ObjectKey.TheVariants.{Entity}
use Rattle.core_tree.specs.Seen.{core_of}
use Rattle.ref_frames.specs.Frames.{parameter_objects}
use Rattle.ref_frames.proofs.entering.parameter_objects.Given as goal

abbrev pub invariant-loop-k : goal.invariant-loop-k
invariant-loop-k l =
    l.fresh ++ parameter_objects (core_of l.trees) (map Entity (drop l.k l.parameters)) (drop l.k l.arguments)
    ≡ parameter_objects (core_of l.trees) (map Entity l.parameters) l.arguments
