use Rattle.std.proofs.Common.{true, subst}
use Rattle.c_types.specs.Trees.{Ctype}
use Rattle.c_types.specs.Table.{type_of}
use Rattle.c_consts.specs.Core.{Core}
use Rattle.c_senses.specs.Conversions.{value_of, conversion}
use Rattle.core_nodes.specs.Standing.{core_at, Made}
use Rattle.core_nodes.proofs.Growing.{knows_on}
use Rattle.core_nodes.proofs.Failing.{follows}
use Rattle.value_rows.proofs.assignments.cast_to.Goals as goal

pub returns-clause-made : goal.returns-clause-made
returns-clause-made c = λ w k.
    let u = c.args.unit.now in
    let mid = c.value.new.unit in
    let v = c.in_ok-v.v in
    let known = knows_on w u mid c.in_ok-v.ensures.builds k in
    let same = c.in_ok-v.ensures.builds.types c.args.ty.0 c.requires.ty in
    follows mid c.conversion.new.unit v c.conversion.result (value_of w c.args.at (core_at u c.args.x)) (λ (x : Core). conversion w true c.args.at x (type_of u.types c.args.ty.0)) (c.in_ok-v.ensures.made w k)
    (subst (λ (t : Ctype). Made c.conversion.new.unit c.conversion.result (conversion w true c.args.at (core_at mid v) t)) same (c.conversion.ensures.made w known))
