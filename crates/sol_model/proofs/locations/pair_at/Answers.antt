use Rattle.std.proofs.Common.{arith}
use Rattle.sol_model.proofs.Pairs.{deep_at, places_known}
use Rattle.sol_model.proofs.InRange.{location_small}
use Rattle.sol_model.proofs.locations.pair_at.Goals as goal

pub place_on-at-requires : goal.place_on-at-requires
place_on-at-requires c =
    let known = places_known c.args.system.now c.location_fact-target.result c.location_fact-source.result c.args.to c.args.from c.location_fact-target.ensures.value c.location_fact-source.ensures.value c.args.i c.requires.valid c.requires.i in
    let small = location_small c.args.system.now c.requires.valid _ known.0 in
    omega arith

pub place_on-of-requires : goal.place_on-of-requires
place_on-of-requires c =
    let known = places_known c.args.system.now c.location_fact-target.result c.location_fact-source.result c.args.to c.args.from c.location_fact-target.ensures.value c.location_fact-source.ensures.value c.args.i c.requires.valid c.requires.i in
    let small = location_small c.args.system.now c.requires.valid _ known.1 in
    omega arith

pub returns-clause-value : goal.returns-clause-value
returns-clause-value c =
    rw (c.place_on-at.ensures, c.place_on-of.ensures)
    (deep_at c.args.system.now c.location_fact-target.result c.location_fact-source.result c.args.to c.args.from c.location_fact-target.ensures.value c.location_fact-source.ensures.value c.args.i c.requires.i)

pub returns-clause-to : goal.returns-clause-to
returns-clause-to c =
    rw c.place_on-at.ensures
    (places_known c.args.system.now c.location_fact-target.result c.location_fact-source.result c.args.to c.args.from c.location_fact-target.ensures.value c.location_fact-source.ensures.value c.args.i c.requires.valid c.requires.i).0

pub returns-clause-from : goal.returns-clause-from
returns-clause-from c =
    rw c.place_on-of.ensures
    (places_known c.args.system.now c.location_fact-target.result c.location_fact-source.result c.args.to c.args.from c.location_fact-target.ensures.value c.location_fact-source.ensures.value c.args.i c.requires.valid c.requires.i).1
