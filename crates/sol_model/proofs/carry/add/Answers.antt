use Rattle.sol_model.proofs.Fitting.{row_held, given_known, location_within}
use Rattle.sol_model.proofs.carry.add.Goals as goal

pub has-requires-clause-row : goal.has-requires-clause-row
has-requires-clause-row c =
    row_held c.args.system.now c.args.rows.now c.requires.part.fits c.args.row
    (given_known c.args.system.now c.args.rows.now c.requires.part.fits c.requires.valid c.args.row c.args.location c.requires.given).0

pub has-requires-clause-location : goal.has-requires-clause-location
has-requires-clause-location c =
    location_within c.args.system.now c.args.rows.now c.requires.part.fits c.args.location
    (given_known c.args.system.now c.args.rows.now c.requires.part.fits c.requires.valid c.args.row c.args.location c.requires.given).1
