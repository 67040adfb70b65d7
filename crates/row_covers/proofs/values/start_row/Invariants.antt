use Rattle.std.proofs.Common.{◌≡◌, ◌+◌, ◌*◌, ◌^◌, ◌≤◌, length, sum, take}
use Rattle.core_tree.specs.Seen.{core_of}
use Rattle.row_numbers.specs.Setting.{widths}
use Rattle.row_covers.proofs.values.start_row.Given as goal

abbrev pub invariant-loop-m : goal.invariant-loop-m
invariant-loop-m l = record {
  value : l.row ≡ length l.scene.space.now + sum (take l.m (widths (core_of l.scene.trees)));
  small : l.row ≤ 2 ^ 32 + l.m * (2 ^ 24 + 2);
}
