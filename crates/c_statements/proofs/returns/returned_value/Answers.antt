use Rattle.std.proofs.Common.{false, ap, subst, ◌≡◌}
use Rattle.std.proofs.Common.{Ok, Err}
use Rattle.c_types.specs.Trees.{Ctype}
use Rattle.c_types.specs.Table.{type_of}
use Rattle.c_consts.specs.Core.{Core}
use Rattle.c_senses.specs.Given.{Given, ◌>>=◌}
use Rattle.c_senses.specs.Conversions.{conversion}
use Rattle.c_senses.specs.Sense.{sense_in, value_in}
use Rattle.c_results.specs.Standing.{senses_made}
use Rattle.core_nodes.specs.Standing.{core_at, Made}
use Rattle.core_nodes.proofs.Failing.{fails, follows}
use Rattle.core_nodes.proofs.Growing.{knows_on}
use Rattle.c_conversions.proofs.constant_values.Valuing.{rows_read}
use Rattle.c_statements.proofs.Bodies.{value_none}
use Rattle.c_statements.proofs.Returning.{value_some}
use Rattle.c_statements.proofs.returns.returned_value.Goals as goal

pub returns-in_default-clause-made : goal.returns-in_default-clause-made
returns-in_default-clause-made c = λ w knows.
    let x = sense_in (senses_made c.args.unit.now c.args.results.now) c.args.part in
    ap (λ (g : Given Core). g >>= (λ v. conversion w false c.args.at v (type_of c.args.unit.now.types c.args.ty.0))) (value_none w c.args.at x (c.in_default.ensures.seen c.args.unit.now))

pub value-requires-clause-rows : goal.value-requires-clause-rows
value-requires-clause-rows c =
    let u = c.args.unit.now in
    rows_read u c.args.results.now c.args.part (core_at u c.in-Some.node) c.requires.rows (c.in-Some.ensures.seen u)

pub returns-in-Err-clause-made : goal.returns-in-Err-clause-made
returns-in-Err-clause-made c = λ w knows.
    let u0 = c.args.unit.now in
    let u1 = c.value.new.unit in
    let x = sense_in (senses_made u0 c.args.results.now) c.args.part in
    let t = type_of u0.types c.args.ty.0 in
    fails u1 u1 c.in-Err.fault (value_in w c.args.at x) (λ v. conversion w false c.args.at v t) (value_some u1 w c.args.at x (core_at u0 c.in-Some.node) (Err c.in-Err.fault) (c.in-Some.ensures.seen u0) (c.in-Err.ensures.made w knows))

pub returns-clause-made : goal.returns-clause-made
returns-clause-made c = λ w knows.
    let u0 = c.args.unit.now in
    let u1 = c.value.new.unit in
    let u2 = c.conversion.new.unit in
    let x = sense_in (senses_made u0 c.args.results.now) c.args.part in
    let t = type_of u0.types c.args.ty.0 in
    let there = value_some u1 w c.args.at x (core_at u0 c.in-Some.node) (Ok c.in-Ok.value) (c.in-Some.ensures.seen u0) (c.in-Ok.ensures.made w knows) in
    let same : type_of u1.types c.args.ty.0 ≡ t = c.in-Ok.ensures.builds.types c.args.ty.0 c.requires.ty in
    let made = subst (λ (k : Ctype). Made u2 c.conversion.result (conversion w false c.args.at (core_at u1 c.in-Ok.value) k)) same (c.conversion.ensures.made w (knows_on w u0 u1 c.in-Ok.ensures.builds knows)) in
    follows u1 u2 c.in-Ok.value c.conversion.result (value_in w c.args.at x) (λ v. conversion w false c.args.at v t) there made
