-- The objects so far are made.
use Rattle.std.proofs.Common.{◌≡◌, ◌+◌, ◌++◌, length, map, take}
use Rattle.std.specs.List.{range_with_len}
use Rattle.core_tree.specs.Seen.{core_of}
use Rattle.ref_blocks.specs.Blocks.{unset_object}
use Rattle.ref_blocks.proofs.blocks.enter.Given as goal

abbrev pub invariant-loop-e : goal.invariant-loop-e
invariant-loop-e l = record {
  own : l.doors.own ≡ l.fn.doors.own ++ range_with_len (length l.memory + length l.fn.doors.fresh) l.e-index;
  fresh : l.doors.fresh ≡ l.fn.doors.fresh ++ map (unset_object (core_of l.trees)) (take l.e-index l.objects);
  ended : l.doors.ended ≡ l.fn.doors.ended;
}
