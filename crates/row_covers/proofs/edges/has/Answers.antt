use Rattle.std.proofs.Common.{arith}
use Rattle.std.proofs.lemmas.Bool.{false≢true}
use Rattle.sol_model.proofs.Fitting.{fact_known}
use Rattle.row_covers.proofs.edges.has.Goals as goal
use Rattle.row_covers.proofs.edges.has.Goals.{then-row-from-via-then-row-from, then-row-from-via-else-row-from+then-location-len}

pub returns-then-row-from : goal.returns-then-row-from
returns-then-row-from c = (
  (λ z. absurd (false≢true z)),
  (λ h.
      let f = fact_known c.args.system.now c.args.rows.now c.requires c.args.row c.args.location h in
      elim c.then-row-from.branch [
        | then-row-from-via-then-row-from w ↦ absurd (omega arith)
        | then-row-from-via-else-row-from+then-location-len w ↦ absurd (omega arith)
      ]),
)
