use Rattle.std.proofs.Common.{◌≡◌, subst, Ok, Err}
use Rattle.c_consts.specs.Core.{Core}
use Rattle.c_senses.specs.Given.{◌>>=◌}
use Rattle.c_senses.specs.Conversions.{value_of}
use Rattle.core_nodes.specs.Standing.{core_at, Made}
use Rattle.c_operators.specs.Seen.{operator_seen}
use Rattle.c_senses.specs.Operators.{between}
use Rattle.core_nodes.proofs.Growing.{knows_on}
use Rattle.core_nodes.proofs.Failing.{fails, follows}
use Rattle.expression_rows.proofs.whole_rows.chains.joined_values.Goals as goal

pub returns-in-Err-value-clause-made : goal.returns-in-Err-value-clause-made
returns-in-Err-value-clause-made c w k =
    let u0 = c.args.unit.now in
    let u1 = c.value.new.unit in
    let u2 = c.value-2.new.unit in
    let op = operator_seen c.args.operator in
    let k1 = knows_on w u0 u1 c.in-Ok.ensures.builds k in
    let kept = c.in-Ok.ensures.builds.cores c.args.b c.requires.b in
    let second = subst (λ (x : Core). Made u2 (Err c.in-Err-value.fault) (value_of w c.args.named x)) kept (c.in-Err-value.ensures.made w k1) in
    follows u1 u2 c.in-Ok.node (Err c.in-Err-value.fault) (value_of w c.args.named (core_at u0 c.args.a))
    (λ x. value_of w c.args.named (core_at u0 c.args.b) >>= between w op c.args.place c.args.named x) (c.in-Ok.ensures.made w k)
    (fails u2 u2 c.in-Err-value.fault (value_of w c.args.named (core_at u0 c.args.b)) (between w op c.args.place c.args.named (core_at u1 c.in-Ok.node)) second)

pub returns-clause-made : goal.returns-clause-made
returns-clause-made c w k =
    let u0 = c.args.unit.now in
    let u1 = c.value.new.unit in
    let u2 = c.value-2.new.unit in
    let u3 = c.between.new.unit in
    let op = operator_seen c.args.operator in
    let k1 = knows_on w u0 u1 c.in-Ok.ensures.builds k in
    let k2 = knows_on w u1 u2 c.in-Ok-value.ensures.builds k1 in
    let kept = c.in-Ok.ensures.builds.cores c.args.b c.requires.b in
    let second = subst (λ (x : Core). Made u2 (Ok c.in-Ok-value.node) (value_of w c.args.named x)) kept (c.in-Ok-value.ensures.made w k1) in
    let left : core_at u2 c.in-Ok.node ≡ core_at u1 c.in-Ok.node = c.in-Ok-value.ensures.builds.cores c.in-Ok.node c.in-Ok.ensures.within in
    let row = subst (λ (x : Core). Made u3 c.between.result (between w op c.args.place c.args.named x (core_at u2 c.in-Ok-value.node))) left (c.between.ensures.made w k2) in
    follows u1 u3 c.in-Ok.node c.between.result (value_of w c.args.named (core_at u0 c.args.a))
    (λ x. value_of w c.args.named (core_at u0 c.args.b) >>= between w op c.args.place c.args.named x) (c.in-Ok.ensures.made w k)
    (follows u2 u3 c.in-Ok-value.node c.between.result (value_of w c.args.named (core_at u0 c.args.b)) (between w op c.args.place c.args.named (core_at u1 c.in-Ok.node)) second row)
