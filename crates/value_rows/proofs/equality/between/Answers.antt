use Rattle.std.proofs.Common.{sym, subst}
use Rattle.c_senses.specs.Operators.{between}
use Rattle.core_nodes.specs.Standing.{core_at, Made}
use Rattle.c_operators.specs.declared.operators.Operator.{Operator}
use Rattle.c_operators.specs.Seen.{operator_seen}
use Rattle.value_rows.proofs.equality.between.Goals as goal

pub returns-in-BothTrue-clause-made : goal.returns-in-BothTrue-clause-made
returns-in-BothTrue-clause-made c = λ w k.
    let u = c.args.unit.now in
    subst (λ (o : Operator). Made c.between-in-BothTrue.new.unit c.between-in-BothTrue.result (between w (operator_seen o) c.args.place c.args.at (core_at u c.args.a) (core_at u c.args.b))) (sym c.in-BothTrue.is) (c.between-in-BothTrue.ensures.made w k)

pub returns-in-EitherTrue-clause-made : goal.returns-in-EitherTrue-clause-made
returns-in-EitherTrue-clause-made c = λ w k.
    let u = c.args.unit.now in
    subst (λ (o : Operator). Made c.between-in-EitherTrue.new.unit c.between-in-EitherTrue.result (between w (operator_seen o) c.args.place c.args.at (core_at u c.args.a) (core_at u c.args.b))) (sym c.in-EitherTrue.is) (c.between-in-EitherTrue.ensures.made w k)

pub returns-in-Following-clause-made : goal.returns-in-Following-clause-made
returns-in-Following-clause-made c = λ w k.
    let u = c.args.unit.now in
    subst (λ (o : Operator). Made c.between-in-Following.new.unit c.between-in-Following.result (between w (operator_seen o) c.args.place c.args.at (core_at u c.args.a) (core_at u c.args.b))) (sym c.in-Following.is) (c.between-in-Following.ensures.made w k)

pub returns-in-NoOperator-clause-made : goal.returns-in-NoOperator-clause-made
returns-in-NoOperator-clause-made c = λ w k.
    let u = c.args.unit.now in
    subst (λ (o : Operator). Made c.between-in-NoOperator.new.unit c.between-in-NoOperator.result (between w (operator_seen o) c.args.place c.args.at (core_at u c.args.a) (core_at u c.args.b))) (sym c.in-NoOperator.is) (c.between-in-NoOperator.ensures.made w k)
