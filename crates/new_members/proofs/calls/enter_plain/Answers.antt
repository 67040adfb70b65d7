use Rattle.std.proofs.Common.{ℕ, get_or, arith}
use Rattle.std.proofs.lemmas.Option.{slice_get-get_or}
use Rattle.sol_model.specs.declared.system.Constraint.TheVariants.{Call}
use Rattle.edge_book.specs.Edges.{only}
use Rattle.new_members.specs.News.{EnteredEdge}
use Rattle.new_members.proofs.Taking.{takes_pairs}
use Rattle.new_members.proofs.Through.{takes_start, takes_next, takes_all}
use Rattle.new_members.proofs.calls.enter_plain.Goals as goal

pub loop-location-init : goal.loop-location-init
loop-location-init c site at = takes_start c.args.new.now (EnteredEdge c.args.system.now site c.args.number) c.args.book.now

pub loop-location-preserved : goal.loop-location-preserved
loop-location-preserved c site at =
    let new = c.args.new.now in
    let i : ℕ = c.loop-location.location-index in
    let location : ℕ = get_or new i 0 in
    takes_next new (EnteredEdge c.args.system.now site c.args.number) c.args.book.now c.loop-location.book c.edges_of_call.new.self i location (c.loop-location.invariant site at) (slice_get-get_or new i 0 c.loop-location-test.true)
    (takes_pairs c.args.system.now (only site.callee location) (Call c.args.number) c.loop-location.book c.edges_of_call.new.self c.in_ok-edges_of_call.field-0 (c.in_ok-edges_of_call.ensures.ok site at))

pub returns : goal.returns
returns c site at = let n = c.loop-location-test.false in
    takes_all c.args.new.now (EnteredEdge c.args.system.now site c.args.number) c.args.book.now c.loop-location.book c.loop-location.location-index (omega arith) (c.loop-location.invariant site at)
