use Rattle.c_consts.specs.Spine.{Leads}
use Rattle.c_consts.proofs.steps.descend.Given as goal

abbrev pub invariant-loop-step : goal.invariant-loop-step
invariant-loop-step l = Leads l.types l.nodes l.node l._step l.at
