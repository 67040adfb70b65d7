use Rattle.stop_places.specs.Stops.{AreStopsBelow}
use Rattle.stop_places.specs.Sight.{solution_in}
use Rattle.stop_places.proofs.list.stops_in.Given as goal

abbrev pub invariant-loop-n : goal.invariant-loop-n
invariant-loop-n l = AreStopsBelow (solution_in l.sight) l.n l.list.items
