use Rattle.std.proofs.Common.{arith, ◌+◌, ◌<◌, ◌≤◌, ℕ, List, length, Ok, Err, sym, subst}
use Rattle.std.proofs.lemmas.List.Elements.{All-get_or}
use Rattle.std.proofs.lemmas.Result.{err_from_is_err_and}
use Rattle.core_nodes.proofs.Growing.{builds_on, knows_on}
use Rattle.value_rows.proofs.Arguments.{Passing, passing_ends, passing_on, argument_seen, argument_fails}
use Rattle.value_rows.proofs.calls.passed.Goals as goal

pub returns-in_err-child-clause-builds : goal.returns-in_err-child-clause-builds
returns-in_err-child-clause-builds c = builds_on c.args.unit.now c.loop-k.unit c.argument.new.unit c.loop-k.invariant.builds c.argument.ensures.builds

pub returns-in_err-child-clause-made : goal.returns-in_err-child-clause-made
returns-in_err-child-clause-made c = λ w k.
    let u = c.args.unit.now in
    let now = c.loop-k.unit in
    let args = c.args.arguments.now in
    let lt : c.loop-k.k < length args = omega arith in
    let p = err_from_is_err_and c.from_residual-in_err-child.result c.from_residual-in_err-child.ensures.1 in
    let known = knows_on w u now c.loop-k.invariant.builds k in
    let within = All-get_or (λ a. a < length u.nodes.items) args c.loop-k.k 0 lt c.requires.arguments in
    let made = argument_seen u c.args.at c.args.c c.args.function args now c.loop-k.k c.loop-k.children c.loop-k.invariant w c.argument.new.unit (Err c.in_err-child.field-0.0) c.parameter_type-parameter.result within c.requires.function c.parameter_type-parameter.ensures.ty (c.in_err-child.ensures.made w known) in
    rw (p.1, p.2) (argument_fails u c.args.at c.args.c c.args.function args now c.loop-k.k c.loop-k.children c.loop-k.invariant lt w k c.argument.new.unit c.argument.new.unit c.in_err-child.field-0.0 made)

pub returns-in_err-push-2-clause-builds : goal.returns-in_err-push-2-clause-builds
returns-in_err-push-2-clause-builds c = builds_on c.args.unit.now c.loop-k.unit c.argument.new.unit c.loop-k.invariant.builds c.argument.ensures.builds

pub loop-k-preserved : goal.loop-k-preserved
loop-k-preserved c =
    let u = c.args.unit.now in
    let now = c.loop-k.unit in
    let args = c.args.arguments.now in
    let lt : c.loop-k.k < length args = omega arith in
    let within = All-get_or (λ a. a < length u.nodes.items) args c.loop-k.k 0 lt c.requires.arguments in
    let on = passing_on u c.args.at c.args.c c.args.function args now c.loop-k.k c.loop-k.children c.loop-k.invariant lt c.argument.new.unit c.in_ok-child.child c.in_ok-child.ensures.ready c.in_ok-child.ensures.builds c.in_ok-child.ensures.within
    (λ w k.
    argument_seen u c.args.at c.args.c c.args.function args now c.loop-k.k c.loop-k.children c.loop-k.invariant w c.argument.new.unit (Ok c.in_ok-child.child) c.parameter_type-parameter.result within c.requires.function c.parameter_type-parameter.ensures.ty
    (c.in_ok-child.ensures.made w (knows_on w u now c.loop-k.invariant.builds k))) in
    subst (λ (is : List ℕ). Passing u c.args.at c.args.c c.args.function args c.argument.new.unit (c.loop-k.k + 1) is) (sym c.in_ok-push-2.ensures.ok) on

pub returns-clause-made : goal.returns-clause-made
returns-clause-made c = λ w k.
    let args = c.args.arguments.now in
    let end : length args ≤ c.loop-k.k = omega arith in
    passing_ends c.args.unit.now c.args.at c.args.c c.args.function args c.loop-k.unit c.loop-k.k c.loop-k.children c.loop-k.invariant end w k
