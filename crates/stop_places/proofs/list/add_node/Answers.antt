use Rattle.std.proofs.Common.{true, false, refl}
use Rattle.std.proofs.lemmas.Option.{slice_get_read}
use Rattle.stop_places.specs.Sight.{solution_in}
use Rattle.stop_places.proofs.Listing.{stands_is, stops_more}
use Rattle.stop_places.proofs.list.add_node.Goals as goal

pub returns : goal.returns
returns c =
    let x = solution_in c.args.sight.now in
    let node = c.index-node.result.now in
    let at = slice_get_read c.args.sight.now.program.now.nodes.items _ c.args.n node refl c.requires.node c.index-node.ensures in
    stops_more x c.args.n c.in_ok-mismatch.mismatch c.is_bad_call-bad.result (stands_is x c.args.n node c.in_ok-mismatch.mismatch false at c.in_ok-mismatch.ensures)
    (stands_is x c.args.n node c.is_bad_call-bad.result true at c.is_bad_call-bad.ensures) c.args.list.now.items c.push_stops.new.list.items c.in_ok-push_stops.ensures
