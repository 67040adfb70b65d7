use Rattle.sol_model.proofs.Fitting.{row_held, given_known, location_within}
use Rattle.sol_model.proofs.Growing.{grows_fact}
use Rattle.sol_model.proofs.carry.insert_given.Goals as goal

pub insert-requires-clause-row : goal.insert-requires-clause-row
insert-requires-clause-row c =
    row_held c.args.system.now c.args.rows.now c.requires.part.fits c.args.row
    (given_known c.args.system.now c.args.rows.now c.requires.part.fits c.requires.valid c.args.row c.args.location c.requires.given).0

pub insert-requires-clause-location : goal.insert-requires-clause-location
insert-requires-clause-location c =
    location_within c.args.system.now c.args.rows.now c.requires.part.fits c.args.location
    (given_known c.args.system.now c.args.rows.now c.requires.part.fits c.requires.valid c.args.row c.args.location c.requires.given).1

pub returns-clause-grows : goal.returns-clause-grows
returns-clause-grows c =
    grows_fact c.args.system.now c.requires.valid c.args.rows.now c.requires.part c.insert.new.self c.args.row c.args.location c.requires.given c.insert.ensures.added c.insert.ensures.width c.insert.ensures.length c.insert.ensures.less_room
