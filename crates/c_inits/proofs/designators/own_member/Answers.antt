use Rattle.std.proofs.Common.{◌∙◌, sym, subst}
use Rattle.c_types.specs.declared.term.PathStep.{PathStep}
use Rattle.c_inits.specs.Initial.{own}
use Rattle.c_inits.specs.Tables.{fields_from}
use Rattle.c_inits.specs.Designated.{IsStep}
use Rattle.c_inits.proofs.Named.{pass_other, pass_unfilled, take_own, no_own}
use Rattle.c_inits.proofs.designators.own_member.Goals as goal
use Rattle.c_inits.proofs.designators.own_member.Goals.{else-is_named-via-then-is_named+else-is_filled, else-is_named-via-else-is_named}

pub returns-then-is_filled : goal.returns-then-is_filled
returns-then-is_filled c =
    let table = c.args.types.now in
    let name = c.args.name.now in
    let here = take_own table c.args.limit c.loop-k.k c.args.members.now c.index-members-k.result name c.is_named.result c.is_filled.result c.requires.complete c.loop-k-test.true c.index-members-k.is c.is_named.ensures c.if-is_named.true c.is_filled.ensures c.if-is_filled.true in
    subst (λ o. IsStep table c.args.limit (fields_from table 0 c.args.members.now) o c.in_ok-step.step c.index-members-k.result.ty.0) (sym c.loop-k.invariant)
    (subst (λ (s : PathStep). IsStep table c.args.limit (fields_from table 0 c.args.members.now) (own (fields_from table c.loop-k.k c.args.members.now) name) s c.index-members-k.result.ty.0) (sym c.in_ok-step.ensures) here)

pub loop-k-preserved : goal.loop-k-preserved
loop-k-preserved c = c.loop-k.invariant ∙ elim c.else-is_named.branch [
  | else-is_named-via-then-is_named+else-is_filled w ↦ pass_unfilled c.args.types.now c.loop-k.k c.args.members.now c.index-members-k.result c.args.name.now w.is_filled.result c.loop-k-test.true c.index-members-k.is w.is_filled.ensures w.if-is_filled.false
  | else-is_named-via-else-is_named w ↦ pass_other c.args.types.now c.loop-k.k c.args.members.now c.index-members-k.result c.args.name.now c.is_named.result c.loop-k-test.true c.index-members-k.is c.is_named.ensures w.if-is_named.false
]

pub returns : goal.returns
returns c = c.loop-k.invariant ∙ no_own c.args.types.now c.loop-k.k c.args.members.now c.args.name.now c.loop-k-test.false
