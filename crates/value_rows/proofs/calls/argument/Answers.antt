use Rattle.std.proofs.Common.{Option, false, sym, subst}
use Rattle.c_types.specs.Trees.{Ctype}
use Rattle.c_types.specs.Table.{type_of}
use Rattle.c_types.specs.declared.term.TypeId.{TypeId}
use Rattle.c_consts.specs.Core.{Core}
use Rattle.c_senses.specs.Conversions.{value_of, conversion}
use Rattle.c_senses.specs.Objects.{further_value}
use Rattle.core_nodes.specs.Standing.{core_at, Made}
use Rattle.core_nodes.proofs.Growing.{knows_on}
use Rattle.core_nodes.proofs.Failing.{follows}
use Rattle.c_conversions.specs.Targets.{type_seen}
use Rattle.value_rows.specs.Calls.{argument_of}
use Rattle.value_rows.proofs.calls.argument.Goals as goal

pub returns-in-Some-clause-made : goal.returns-in-Some-clause-made
returns-in-Some-clause-made c = λ w k.
    let u = c.args.unit.now in
    let mid = c.value.new.unit in
    let v = c.in_ok-v.v in
    let ty = c.in-Some.ty in
    let known = knows_on w u mid c.in_ok-v.ensures.builds k in
    let same = c.in_ok-v.ensures.builds.types ty.0 (c.requires.parameter ty c.in-Some.is) in
    let made = follows mid c.conversion.new.unit v c.conversion.result (value_of w c.args.at (core_at u c.args.a)) (λ (x : Core). conversion w false c.args.at x (type_of u.types ty.0)) (c.in_ok-v.ensures.made w k)
    (subst (λ (t : Ctype). Made c.conversion.new.unit c.conversion.result (conversion w false c.args.at (core_at mid v) t)) same (c.conversion.ensures.made w known)) in
    subst (λ (o : Option TypeId). Made c.conversion.new.unit c.conversion.result (argument_of w c.args.at (core_at u c.args.a) (type_seen u.types o))) (sym c.in-Some.is) made

pub returns-in-None-clause-made : goal.returns-in-None-clause-made
returns-in-None-clause-made c = λ w k.
    let u = c.args.unit.now in
    let mid = c.value.new.unit in
    let v = c.in_ok-v.v in
    let known = knows_on w u mid c.in_ok-v.ensures.builds k in
    let made = follows mid c.further.new.unit v c.further.result (value_of w c.args.at (core_at u c.args.a)) (λ (x : Core). further_value w c.args.at x) (c.in_ok-v.ensures.made w k) (c.further.ensures.made w known) in
    subst (λ (o : Option TypeId). Made c.further.new.unit c.further.result (argument_of w c.args.at (core_at u c.args.a) (type_seen u.types o))) (sym c.in-None.is) made
