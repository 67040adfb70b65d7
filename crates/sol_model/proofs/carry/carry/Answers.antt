use Rattle.sol_model.proofs.Fitting.{row_held}
use Rattle.sol_model.proofs.Growing.{edge_known, grows_edge}
use Rattle.sol_model.proofs.carry.carry.Goals as goal

pub insert_all-requires-clause-from : goal.insert_all-requires-clause-from
insert_all-requires-clause-from c =
    row_held c.args.system.now c.args.rows.now c.requires.part.fits c.args.from
    (edge_known c.args.system.now c.requires.valid c.args.rows.now c.requires.part c.args.from c.args.to c.requires.edge).0

pub insert_all-requires-clause-to : goal.insert_all-requires-clause-to
insert_all-requires-clause-to c =
    row_held c.args.system.now c.args.rows.now c.requires.part.fits c.args.to
    (edge_known c.args.system.now c.requires.valid c.args.rows.now c.requires.part c.args.from c.args.to c.requires.edge).1

pub returns : goal.returns
returns c =
    grows_edge c.args.system.now c.requires.valid c.args.rows.now c.requires.part c.insert_all.new.self c.args.from c.args.to c.requires.edge c.insert_all.ensures.added c.insert_all.ensures.width c.insert_all.ensures.length c.insert_all.ensures.room
