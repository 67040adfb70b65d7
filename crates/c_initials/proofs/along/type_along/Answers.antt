use Rattle.std.proofs.Common.{rules, sym, ◌∙◌, ◌+◌, drop, Some, None}
use Rattle.c_types.specs.Table.{type_of}
use Rattle.c_initials.proofs.Parts.{along_none, along_step, along_end}
use Rattle.c_initials.proofs.along.type_along.Goals as goal

pub returns-in-None-clause-part : goal.returns-in-None-clause-part
returns-in-None-clause-part c = λ w h.
    sym (along_none w (drop (c.loop-step.step-index + 1) c.args.path.now))
    ∙ along_step w (type_of c.args.types.now c.loop-step.here.0) c.args.path.now c.loop-step.step-index _ None c.loop-step-test.true (c.in-None.ensures.part w h)
    ∙ c.loop-step.invariant.rest w h

pub loop-step-preserved : goal.loop-step-preserved
loop-step-preserved c = record {
  within = search rules;
  rest = λ w h.
      along_step w (type_of c.args.types.now c.loop-step.here.0) c.args.path.now c.loop-step.step-index _ (Some (type_of c.args.types.now c.in-Some.next.0)) c.loop-step-test.true (c.in-Some.ensures.part w h)
      ∙ c.loop-step.invariant.rest w h;
}

pub returns-clause-part : goal.returns-clause-part
returns-clause-part c = λ w h.
    along_end w (type_of c.args.types.now c.loop-step.here.0) c.args.path.now c.loop-step.step-index c.loop-step-test.false ∙ c.loop-step.invariant.rest w h
