use Rattle.std.proofs.Common.{arith, ◌≡◌, ◌+◌, ◌<◌, Option, sym, ◌∙◌, subst}
use Rattle.c_types.specs.declared.term.TypeId.{TypeId}
use Rattle.core_nodes.proofs.Growing.{builds_on}
use Rattle.core_nodes.proofs.Failing.{fits_core}
use Rattle.c_conversions.proofs.FirstMembers.{Going, going_none, going_ended, going_same, going_on}
use Rattle.c_conversions.proofs.upcasts.upcast.Goals as goal

pub returns-in_default-clause-made : goal.returns-in_default-clause-made
returns-in_default-clause-made c =
    let u = c.args.unit.now in
    let lt : c.steps._step < u.types.tags + 1 = omega (arith, c.tag_count.ensures) in
    let going = subst (λ (o : Option TypeId). Going u c.args.from c.args.sought c.args.node c.steps.unit c.steps._step o c.steps.value) c.in_default.is c.steps.invariant in
    λ w k. going_none u c.args.from c.args.sought c.args.node c.steps.unit c.steps._step c.steps.value going lt w k

pub returns-then-same_types-clause-builds : goal.returns-then-same_types-clause-builds
returns-then-same_types-clause-builds c = builds_on c.args.unit.now c.steps.unit _ c.steps.invariant.builds c.in_ok-value.ensures.builds

pub returns-then-same_types-clause-made : goal.returns-then-same_types-clause-made
returns-then-same_types-clause-made c =
    let u = c.args.unit.now in
    let t = c.in-Some.ty in
    let lt : c.steps._step < u.types.tags + 1 = omega (arith, c.tag_count.ensures) in
    let going = subst (λ (o : Option TypeId). Going u c.args.from c.args.sought c.args.node c.steps.unit c.steps._step o c.steps.value) c.in-Some.is c.steps.invariant in
    going_same u c.args.from c.args.sought c.args.node c.steps.unit c.steps._step c.steps.value t going _ c.in_ok-value.value c.in_ok-value.ensures.builds (fits_core _ c.in_ok-value.value _ c.in_ok-value.ensures.made) c.requires.sought lt (sym c.same_types.ensures ∙ c.if-same_types.true)

pub steps-preserved : goal.steps-preserved
steps-preserved c =
    let u = c.args.unit.now in
    let t = c.in-Some.ty in
    let going = subst (λ (o : Option TypeId). Going u c.args.from c.args.sought c.args.node c.steps.unit c.steps._step o c.steps.value) c.in-Some.is c.steps.invariant in
    going_on u c.args.from c.args.sought c.args.node c.steps.unit c.steps._step c.steps.value t going _ c.in_ok-value.value c.in_ok-value.ensures.builds (fits_core _ c.in_ok-value.value _ c.in_ok-value.ensures.made) c.requires.sought (sym c.same_types.ensures ∙ c.if-same_types.false)
    c.first_member-next-in-steps.result c.in_ok-value.ensures.ready c.in_ok-value.ensures.within c.first_member-next-in-steps.ensures.within c.first_member-next-in-steps.ensures.member

pub returns-clause-made : goal.returns-clause-made
returns-clause-made c =
    let u = c.args.unit.now in
    let end : c.steps._step ≡ u.types.tags + 1 = omega (arith, c.tag_count.ensures) in
    λ w k. going_ended u c.args.from c.args.sought c.args.node c.steps.unit c.steps._step c.steps.value c.steps.next c.steps.invariant end w k
