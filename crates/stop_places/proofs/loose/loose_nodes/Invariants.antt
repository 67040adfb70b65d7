use Rattle.stop_places.specs.Sight.{AreLoose}
use Rattle.stop_places.proofs.loose.loose_nodes.Given as goal

abbrev pub invariant-loop-n : goal.invariant-loop-n
invariant-loop-n l = AreLoose l.sight l.n l.list.items
