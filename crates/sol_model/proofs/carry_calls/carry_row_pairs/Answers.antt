use Rattle.std.proofs.Common.{zip}
use Rattle.sol_model.specs.Families.{members}
use Rattle.sol_model.proofs.Members.{Contains-at, zip_at}
use Rattle.sol_model.proofs.Growing.{edge_more}
use Rattle.sol_model.proofs.carry_calls.carry_row_pairs.Goals as goal

pub carry-requires-clause-edge : goal.carry-requires-clause-edge
carry-requires-clause-edge c =
    edge_more c.args.system.now (members c.args.rows.now) (members c.loop-i.rows) c.row_at-source.result c.row_at-target.result c.loop-i.invariant.kept
    (c.requires.edges c.row_at-source.result c.row_at-target.result
    (Contains-at (zip c.args.from.now c.args.to.now) c.loop-i.i _ (zip_at c.args.from.now c.args.to.now c.loop-i.i _ _ c.row_at-source.ensures.value c.row_at-target.ensures.value)))
