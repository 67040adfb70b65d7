use Rattle.std.proofs.Common.{false, subst}
use Rattle.c_consts.specs.Core.{Core}
use Rattle.c_senses.specs.Conversions.{value_of}
use Rattle.c_senses.specs.Objects.{update_row}
use Rattle.core_nodes.specs.Standing.{core_at, Made}
use Rattle.core_nodes.proofs.Growing.{knows_on}
use Rattle.core_nodes.proofs.Failing.{follows}
use Rattle.value_rows.proofs.assignments.updated_from.Goals as goal

pub returns-clause-made : goal.returns-clause-made
returns-clause-made c = λ w k.
    let u = c.args.unit.now in
    let mid = c.value.new.unit in
    let v = c.in_ok-v.v in
    let known = knows_on w u mid c.in_ok-v.ensures.builds k in
    let same = c.in_ok-v.ensures.builds.cores c.args.p c.requires.p in
    follows mid c.update_row.new.unit v c.update_row.result (value_of w c.args.at (core_at u c.args.b)) (update_row w c.args.op false c.args.place c.args.at (core_at u c.args.p)) (c.in_ok-v.ensures.made w k)
    (subst (λ (p : Core). Made c.update_row.new.unit c.update_row.result (update_row w c.args.op false c.args.place c.args.at p (core_at mid v))) same (c.update_row.ensures.made w known))
