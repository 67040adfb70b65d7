use Rattle.std.proofs.Common.{◌∙◌, sym, ap, subst, refl}
use Rattle.c_types.specs.declared.term.PathStep.TheVariants.{Member}
use Rattle.c_inits.specs.Parts.{first_field}
use Rattle.c_inits.specs.Cursor.{IsPart}
use Rattle.c_inits.specs.Tables.{fields_from}
use Rattle.c_inits.proofs.Filled.{pass_member, take_member, no_fields}
use Rattle.c_inits.proofs.cursor.member_from.Goals as goal

pub loop-k-preserved : goal.loop-k-preserved
loop-k-preserved c =
    c.loop-k.invariant
    ∙ ap first_field (pass_member c.args.types.now c.loop-k.k c.args.members.now c.index-members-k.result c.is_filled.result c.loop-k-test.true c.index-members-k.is c.is_filled.ensures c.if-is_filled.false)

pub loop-k-init : goal.loop-k-init
loop-k-init c = refl

pub returns : goal.returns
returns c = c.loop-k.invariant ∙ ap first_field (no_fields c.args.types.now c.loop-k.k c.args.members.now c.loop-k-test.false)

pub returns-in-Ok : goal.returns-in-Ok
returns-in-Ok c =
    let table = c.args.types.now in
    let here = take_member table c.args.limit c.loop-k.k c.args.members.now c.index-members-k.result c.is_filled.result c.requires.complete c.loop-k-test.true c.index-members-k.is c.is_filled.ensures c.if-is_filled.true in
    subst (λ o. IsPart table c.args.limit o (Member c.in-Ok.number) c.index-members-k.result.ty.0) (sym c.loop-k.invariant)
    (subst (λ n. IsPart table c.args.limit (first_field (fields_from table c.loop-k.k c.args.members.now)) (Member n) c.index-members-k.result.ty.0) (sym c.in-Ok.ensures.1) here)
