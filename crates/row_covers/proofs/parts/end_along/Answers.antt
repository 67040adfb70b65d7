use Rattle.std.proofs.Common.{refl}
use Rattle.row_covers.proofs.Walked.{further, out, arrived}
use Rattle.row_covers.proofs.parts.end_along.Goals as goal

pub loop-step-init : goal.loop-step-init
loop-step-init c = record { known = c.requires; along = record { x = _; rest = refl; ty = refl; node = refl; inside = refl } }

pub loop-step-preserved : goal.loop-step-preserved
loop-step-preserved c = record {
  known = (c.in-Some.ensures c.loop-step.invariant.along.x.node c.loop-step.invariant.along.node).5;
  along = further c.args.types.now c.args.path.now c.loop-step.step-index _ c.loop-step.part c.in-Some.next _ c.loop-step-test.true c.loop-step.invariant.along c.in-Some.ensures;
}

pub returns-in-None : goal.returns-in-None
returns-in-None c = out c.args.types.now c.args.path.now c.loop-step.step-index _ c.loop-step.part _ c.loop-step-test.true c.loop-step.invariant.along c.in-None.ensures

pub returns : goal.returns
returns c = arrived c.args.types.now c.args.path.now c.loop-step.step-index c.loop-step.part _ _ c.loop-step-test.false c.is_pointing.ensures c.loop-step.invariant.along
