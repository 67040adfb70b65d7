use Rattle.c_conversions.proofs.FirstMembers.{Going}
use Rattle.c_conversions.proofs.upcasts.upcast.Given as goal

abbrev pub invariant-steps : goal.invariant-steps
invariant-steps l = Going l.fn.unit l.fn.from l.fn.sought l.fn.node l.unit l._step l.next l.value
