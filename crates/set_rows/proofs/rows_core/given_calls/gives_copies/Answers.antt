use Rattle.sol_model.specs.Families.{members}
use Rattle.sol_model.specs.Rules.{IsInArgument, IntoArgumentEdge}
use Rattle.sol_model.proofs.Turns.{at_next}
use Rattle.set_rows.specs.rows_core.Given.{IsCarried}
use Rattle.set_rows.proofs.rows_core.Looking.{ruled_out}
use Rattle.set_rows.proofs.rows_core.given_calls.gives_copies.Goals as goal
use Rattle.set_rows.proofs.rows_core.given_calls.gives_copies.Goals.{else-is_in_argument-via-then-is_in_argument+else-gives_into_argument, else-is_in_argument-via-else-is_in_argument}

pub loop-target-preserved : goal.loop-target-preserved
loop-target-preserved c =
    at_next (λ target. IsInArgument (members c.args.rows.now) c.args.call.now c.args.number c.args.i target → IsCarried (IntoArgumentEdge c.args.system.now (members c.args.rows.now) c.args.call.now c.args.number target c.args.j) (members c.args.rows.now) c.args.row c.args.location → ⊥)
    c.loop-target.target c.loop-target.invariant
    (λ has carried. elim c.else-is_in_argument.branch [
      | else-is_in_argument-via-then-is_in_argument+else-gives_into_argument w ↦ ruled_out _ _ w.if-gives_into_argument.false w.gives_into_argument.ensures.1 carried
      | else-is_in_argument-via-else-is_in_argument w ↦ ruled_out _ _ w.if-is_in_argument.false c.is_in_argument.ensures.1 has
    ])
