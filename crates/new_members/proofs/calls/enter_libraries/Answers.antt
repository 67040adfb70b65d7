use Rattle.std.proofs.Common.{ℕ, get_or, arith}
use Rattle.std.proofs.lemmas.Option.{slice_get-get_or}
use Rattle.sol_model.specs.Families.{members}
use Rattle.new_members.specs.News.{LibraryEdge, LibraryFact}
use Rattle.new_members.proofs.Through.{through_none, through_next, through_all}
use Rattle.new_members.proofs.calls.enter_libraries.Goals as goal

pub loop-location-init : goal.loop-location-init
loop-location-init c = record {
  pairs = through_none c.args.new.now (LibraryEdge c.args.system.now (members c.args.rows.now) c.args.call.now) c.args.pairs.now.items;
  facts = through_none c.args.new.now (LibraryFact c.args.system.now c.args.call.now) c.args.facts.now.items;
}

pub loop-location-preserved : goal.loop-location-preserved
loop-location-preserved c =
    let new = c.args.new.now in
    let i : ℕ = c.loop-location.location-index in
    let at = slice_get-get_or new i 0 c.loop-location-test.true in record {
      pairs = through_next new (LibraryEdge c.args.system.now (members c.args.rows.now) c.args.call.now) c.args.pairs.now.items c.loop-location.pairs.items c.enter_library.new.pairs.items i (get_or new i 0) c.loop-location.invariant.pairs at c.in_ok-enter_library.ensures.pairs;
      facts = through_next new (LibraryFact c.args.system.now c.args.call.now) c.args.facts.now.items c.loop-location.facts.items c.enter_library.new.facts.items i (get_or new i 0) c.loop-location.invariant.facts at c.in_ok-enter_library.ensures.facts;
    }

pub returns-clause-pairs : goal.returns-clause-pairs
returns-clause-pairs c = let n = c.loop-location-test.false in
    through_all c.args.new.now (LibraryEdge c.args.system.now (members c.args.rows.now) c.args.call.now) c.args.pairs.now.items c.loop-location.pairs.items c.loop-location.location-index (omega arith) c.loop-location.invariant.pairs

pub returns-clause-facts : goal.returns-clause-facts
returns-clause-facts c = let n = c.loop-location-test.false in
    through_all c.args.new.now (LibraryFact c.args.system.now c.args.call.now) c.args.facts.now.items c.loop-location.facts.items c.loop-location.location-index (omega arith) c.loop-location.invariant.facts
