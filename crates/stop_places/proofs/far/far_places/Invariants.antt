use Rattle.stop_places.specs.Far.{AreFar}
use Rattle.stop_places.proofs.far.far_places.Given as goal

-- it is known of the nodes so far
abbrev pub invariant-loop-n : goal.invariant-loop-n
invariant-loop-n l = AreFar l.nodes l.n l.far.items
