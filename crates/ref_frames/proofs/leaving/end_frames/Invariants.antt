use Rattle.std.proofs.Common.{◌≡◌, length}
use Rattle.ref_frames.specs.Frames.{all_ended}
use Rattle.ref_frames.proofs.leaving.end_frames.Given as goal

abbrev pub invariant-loop-frame : goal.invariant-loop-frame
invariant-loop-frame l = all_ended l.memory l.frames ≡ all_ended l.initial.memory l.initial.frames

abbrev pub decreases-loop-frame : goal.decreases-loop-frame
decreases-loop-frame l = length l.frames
