use Rattle.std.proofs.Common.{zip}
use Rattle.sol_model.specs.Families.{members}
use Rattle.sol_model.proofs.Members.{Contains-at, zip_at}
use Rattle.sol_model.proofs.Growing.{edge_more}
use Rattle.sol_model.proofs.carry_calls.carry_joined.Goals as goal

pub carry_row_pairs-requires-clause-edges : goal.carry_row_pairs-requires-clause-edges
carry_row_pairs-requires-clause-edges c a b h =
    edge_more c.args.system.now (members c.args.rows.now) (members c.loop-i.rows) a b c.loop-i.invariant.kept
    (c.requires.edges a b (
      (c.rows_at-sources.result.now, c.rows_at-targets.result.now),
      Contains-at (zip c.args.from.now c.args.to.now) c.loop-i.i _ (zip_at c.args.from.now c.args.to.now c.loop-i.i _ _ c.rows_at-sources.ensures.value c.rows_at-targets.ensures.value),
      h,
    ))
