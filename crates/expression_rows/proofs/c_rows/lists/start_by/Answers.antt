use Rattle.core_nodes.specs.Standing.{core_at}
use Rattle.core_nodes.proofs.Failing.{made_same}
use Rattle.expression_rows.proofs.c_rows.Inner.{start_named_by, start_unnamed}
use Rattle.expression_rows.proofs.c_rows.lists.start_by.Goals as goal

pub returns-in-Some-clause-made : goal.returns-in-Some-clause-made
returns-in-Some-clause-made c w fits =
    let u = c.args.unit.now in
    made_same c.start.new.unit c.start.result _ _
    (start_named_by w c.args.place c.args.at (core_at u c.args.a) (core_at u c.args.n) c.in-Some.field-0 c.args.further c.in-Some.ensures fits) c.start.ensures.made

pub returns-in-None-clause-made : goal.returns-in-None-clause-made
returns-in-None-clause-made c w fits =
    let u = c.args.unit.now in
    start_unnamed w c.args.place c.args.at (core_at u c.args.a) (core_at u c.args.n) c.in-None.ensures
