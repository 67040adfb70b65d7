use Rattle.std.proofs.Common.{◌≡◌, sym, subst, true, false, Option, Some}
use Rattle.c_types.specs.declared.term.TypeId.{TypeId}
use Rattle.c_types.specs.Table.{type_of}
use Rattle.c_senses.specs.Given.{Given}
use Rattle.c_senses.specs.Sense.{Sense}
use Rattle.c_results.specs.Standing.{Rowed, TypeSeen}
use Rattle.tree_reads.specs.Sources.{source_read}
use Rattle.c_structures.proofs.Gathering.{unnamed_some}
use Rattle.c_structures.proofs.members.unnamed_member.Goals as goal

pub returns-then-may_be_unnamed-clause-row : goal.returns-then-may_be_unnamed-clause-row
returns-then-may_be_unnamed-clause-row c = λ w sense t k f seen.
    let u = c.args.unit.now in
    let is : t ≡ Some (type_of u.types c.in-Some.ty.0) = subst (λ (o : Option TypeId). TypeSeen u o t) c.in-Some.is seen in
    subst (λ (g : Given Sense). Rowed u c.one_unnamed.result g) (sym (unnamed_some w (source_read c.args.syntax.now) sense c.args.at t (type_of u.types c.in-Some.ty.0) true is (c.if-may_be_unnamed.ensures w sense k f))) (c.one_unnamed.ensures.row u)

pub returns-else-may_be_unnamed-clause-row : goal.returns-else-may_be_unnamed-clause-row
returns-else-may_be_unnamed-clause-row c = λ w sense t k f seen.
    let u = c.args.unit.now in
    let is : t ≡ Some (type_of u.types c.in-Some.ty.0) = subst (λ (o : Option TypeId). TypeSeen u o t) c.in-Some.is seen in
    unnamed_some w (source_read c.args.syntax.now) sense c.args.at t (type_of u.types c.in-Some.ty.0) false is (c.if-may_be_unnamed.ensures w sense k f)
