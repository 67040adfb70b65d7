use Rattle.std.proofs.Common.{slice_index}
use Rattle.link_merge.specs.Complete.{IsCompleted, AreDone}
use Rattle.link_merge.proofs.complete.complete_unit.Given as goal

abbrev pub invariant-loop-position : goal.invariant-loop-position
invariant-loop-position l = record {
  completed : IsCompleted l.initial.types l.types l.unit l.start (λ k. slice_index l.tags k);
  done : AreDone l.types l.unit (λ k. slice_index l.tags k) l.position;
}
