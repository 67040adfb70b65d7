use Rattle.obj_space.specs.name_tests.Seen.{AreSeen}
use Rattle.obj_space.proofs.name_tests.differ.names_differ.Given as goal

abbrev pub invariant-loop-location : goal.invariant-loop-location
invariant-loop-location l = AreSeen l.seen l.space l.location
