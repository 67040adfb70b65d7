use Rattle.std.proofs.Common.{◌≡◌, ◌≤◌, take}
use Rattle.std.specs.Prelude.{sum_by}
use Rattle.row_covers.specs.Targets.{call_unit}
use Rattle.row_covers.proofs.targets.calls_before.Given as goal

abbrev pub invariant-loop-m : goal.invariant-loop-m
invariant-loop-m l = record {
  value : l.count ≡ sum_by call_unit (take l.m l.nodes);
  small : l.count ≤ l.m;
}
