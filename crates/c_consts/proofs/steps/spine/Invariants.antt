use Rattle.std.proofs.Common.{◌+◌, ◌≤◌}
use Rattle.c_consts.specs.Spine.{Leads}
use Rattle.c_consts.proofs.steps.spine.Given as goal

abbrev pub invariant-loop-next : goal.invariant-loop-next
invariant-loop-next l = record {
  leads : Leads l.types l.nodes l.node l.depth l.at;
  range : l.depth + l.at ≤ l.node;
}

abbrev pub decreases-loop-next : goal.decreases-loop-next
decreases-loop-next l = l.at
