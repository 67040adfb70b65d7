use Rattle.std.proofs.Common.{arith, ℕ, List, sym, subst}
use Rattle.c_senses.specs.Sense.{sense_in}
use Rattle.c_senses.specs.Expressions as expressions
use Rattle.c_results.specs.Standing.{senses_made, Rowed}
use Rattle.expression_rows.proofs.c_rows.Steps.{two_of}
use Rattle.expression_rows.proofs.c_rows.postfix.with_index.Goals as goal

pub returns-clause-row : goal.returns-clause-row
returns-clause-row c w s k =
    let u1 = c.indexed.new.unit in
    let S = sense_in (senses_made c.args.unit.now c.args.results.now) in
    let xs = c.args.children.now in
    subst (λ (l : List ℕ). Rowed u1 c.sensed.result (expressions.indexed w s S c.args.place c.args.at (S c.args.left) l)) (sym (two_of xs (omega (arith, c.if-children-lt2.false))))
    (c.sensed.ensures.row u1 _ (c.indexed.ensures.made w k))
