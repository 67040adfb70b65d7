use Rattle.std.proofs.Common.{sym, ◌∙◌}
use Rattle.std.proofs.lemmas.Bool.{both_ways}
use Rattle.sol_model.specs.Families.{Has, members}
use Rattle.sol_model.specs.Rules.{IntoEdge}
use Rattle.sol_model.proofs.Turns.{at_next}
use Rattle.set_rows.specs.rows_core.Given.{IsCarried}
use Rattle.set_rows.proofs.rows_core.Looking.{ruled_out}
use Rattle.set_rows.proofs.rows_core.given.gives_contents.Goals as goal
use Rattle.set_rows.proofs.rows_core.given.gives_contents.Goals.{else-has-via-then-has+else-gives_into, else-has-via-else-has}

pub loop-target-preserved : goal.loop-target-preserved
loop-target-preserved c =
    at_next (λ target. Has (members c.args.rows.now) c.args.to target → IsCarried (IntoEdge c.args.system.now (members c.args.rows.now) target c.args.from) (members c.args.rows.now) c.args.row c.args.location → ⊥)
    c.loop-target.target c.loop-target.invariant
    (λ has carried. elim c.else-has.branch [
      | else-has-via-then-has+else-gives_into w ↦ ruled_out _ _ w.if-gives_into.false w.gives_into.ensures.1 carried
      | else-has-via-else-has w ↦ both_ways _ (sym c.has.ensures ∙ w.if-has.false) has
    ])
