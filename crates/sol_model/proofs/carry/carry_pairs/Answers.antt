use Rattle.sol_model.specs.Families.{members}
use Rattle.sol_model.specs.Places.{deep}
use Rattle.sol_model.proofs.Members.{Contains-at}
use Rattle.sol_model.proofs.Growing.{edge_more}
use Rattle.sol_model.proofs.carry.carry_pairs.Goals as goal

pub carry-requires-clause-edge : goal.carry-requires-clause-edge
carry-requires-clause-edge c =
    edge_more c.args.system.now (members c.args.rows.now) (members c.loop-i.rows) c.pair_at-at.result.1 c.pair_at-at.result.0 c.loop-i.invariant.kept
    (c.requires.edges c.pair_at-at.result.1 c.pair_at-at.result.0 (Contains-at (deep c.args.system.now c.args.to c.args.from) c.loop-i.i _ c.pair_at-at.ensures.value))
