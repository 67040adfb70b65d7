use Rattle.std.proofs.Common.{List, map, subst}
use Rattle.c_consts.specs.Core.{Core, ctype_of}
use Rattle.c_senses.specs.Conversions.{value_of}
use Rattle.c_senses.specs.Objects.{callee_row}
use Rattle.core_nodes.specs.Standing.{core_at, Made}
use Rattle.core_nodes.proofs.Growing.{knows_on}
use Rattle.core_nodes.proofs.Failing.{follows}
use Rattle.value_rows.proofs.Called.{cores_grown}
use Rattle.value_rows.proofs.calls.call_row.Goals as goal

pub returns-clause-made : goal.returns-clause-made
returns-clause-made c = λ w k may.
    let u = c.args.unit.now in
    let mid = c.value.new.unit in
    let known = knows_on w u mid c.in_ok-c.ensures.builds k in
    let same = cores_grown u mid c.in_ok-c.ensures.builds c.args.arguments.now c.requires.arguments in
    follows mid c.callee_row.new.unit c.in_ok-c.c c.callee_row.result (value_of w c.args.at (core_at u c.args.f))
    (λ (x : Core). callee_row w c.args.place c.args.at x (map (λ a. core_at u a) c.args.arguments.now) (ctype_of x)) (c.in_ok-c.ensures.made w k)
    (subst (λ (args : List Core). Made c.callee_row.new.unit c.callee_row.result (callee_row w c.args.place c.args.at (core_at mid c.in_ok-c.c) args (ctype_of (core_at mid c.in_ok-c.c)))) same (c.callee_row.ensures.made w known may))
