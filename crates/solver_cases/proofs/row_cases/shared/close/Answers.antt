use Rattle.set_rows.specs.Views.{known}
use Rattle.set_rows.specs.Calls.{system_of, view}
use Rattle.set_rows.proofs.Samples.{addresses_closed}
use Rattle.solver_cases.proofs.row_cases.shared.close.Goals as goal

pub shut-requires-clause-closed : goal.shut-requires-clause-closed
shut-requires-clause-closed c = addresses_closed (system_of c.args.table.now) (known (view c.args.seat.now)) c.requires.seen
