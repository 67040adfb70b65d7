use Rattle.std.proofs.Common.{ℕ, get_or, arith}
use Rattle.std.proofs.lemmas.Option.{slice_get-get_or}
use Rattle.new_members.specs.News.{NewLibraryEdge}
use Rattle.sol_model.specs.Families.{members}
use Rattle.new_members.proofs.Through.{through_none, through_next, through_all}
use Rattle.new_members.proofs.calls.renew_libraries.Goals as goal

pub loop-location-init : goal.loop-location-init
loop-location-init c = through_none c.args.locations.now (NewLibraryEdge c.args.system.now (members c.args.rows.now) c.args.call.now c.args.news.now.row c.args.news.now.new.now) c.args.pairs.now.items

pub loop-location-preserved : goal.loop-location-preserved
loop-location-preserved c =
    let i : ℕ = c.loop-location.location-index in
    through_next c.args.locations.now (NewLibraryEdge c.args.system.now (members c.args.rows.now) c.args.call.now c.args.news.now.row c.args.news.now.new.now) c.args.pairs.now.items c.loop-location.pairs.items c.renew_library.new.pairs.items i (get_or c.args.locations.now i 0) (c.loop-location.invariant) (slice_get-get_or c.args.locations.now i 0 c.loop-location-test.true) (c.in_ok-renew_library.ensures)

pub returns : goal.returns
returns c = (through_all c.args.locations.now (NewLibraryEdge c.args.system.now (members c.args.rows.now) c.args.call.now c.args.news.now.row c.args.news.now.new.now) c.args.pairs.now.items c.loop-location.pairs.items c.loop-location.location-index (let n = c.loop-location-test.false in omega arith) (c.loop-location.invariant))
