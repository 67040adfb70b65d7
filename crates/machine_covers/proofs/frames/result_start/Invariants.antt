use Rattle.std.proofs.Common.{◌≡◌, ◌+◌, ◌*◌, ◌≤◌, ◌^◌, length, map, sum, take}
use Rattle.core_tree.specs.Seen.{core_of}
use Rattle.row_numbers.specs.Setting.{start_at, widths}
use Rattle.machine_covers.specs.Frames.{width_of}
use Rattle.machine_covers.proofs.frames.result_start.Given as goal

abbrev pub invariant-loop-i : goal.invariant-loop-i
invariant-loop-i l = record {
  value : l.row
      ≡ start_at (length l.scene.space.now) (widths (core_of l.scene.trees)) (length l.scene.trees.nodes.now)
      + sum (take l.i (map (width_of (core_of l.scene.trees) l.scene.space.now) l.scene.system.now.functions));
  small : l.row ≤ 2 ^ 57 + l.i * 2 ^ 24;
}
