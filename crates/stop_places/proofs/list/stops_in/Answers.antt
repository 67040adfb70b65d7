use Rattle.std.proofs.Common.{arith}
use Rattle.stop_places.specs.Sight.{solution_in}
use Rattle.stop_places.proofs.Listing.{all_stops}
use Rattle.stop_places.proofs.list.stops_in.Goals as goal

pub returns : goal.returns
returns c = all_stops (solution_in c.args.sight.now) c.loop-n.n c.loop-n.list.items (let past = c.loop-n-test.false in let end = c.len-n-end.ensures in omega arith) c.loop-n.invariant
