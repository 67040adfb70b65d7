use Rattle.std.proofs.Common.{sym, ◌∙◌}
use Rattle.std.proofs.lemmas.Bool.{both_ways}
use Rattle.sol_model.specs.Families.{Has, members}
use Rattle.sol_model.specs.Rules.{PairEdge}
use Rattle.sol_model.proofs.Turns.{at_next}
use Rattle.set_rows.specs.rows_core.Given.{IsCarried}
use Rattle.set_rows.proofs.rows_core.Looking.{ruled_out}
use Rattle.set_rows.proofs.rows_core.given.gives_into.Goals as goal
use Rattle.set_rows.proofs.rows_core.given.gives_into.Goals.{else-has-via-then-has+else-gives_pairs, else-has-via-else-has}

pub loop-from-preserved : goal.loop-from-preserved
loop-from-preserved c =
    at_next (λ from. Has (members c.args.rows.now) c.args.source from → IsCarried (PairEdge c.args.system.now c.args.to from) (members c.args.rows.now) c.args.row c.args.location → ⊥)
    c.loop-from.from c.loop-from.invariant
    (λ has carried. elim c.else-has.branch [
      | else-has-via-then-has+else-gives_pairs w ↦ ruled_out _ _ w.if-gives_pairs.false w.gives_pairs.ensures.1 carried
      | else-has-via-else-has w ↦ both_ways _ (sym c.has.ensures ∙ w.if-has.false) has
    ])
