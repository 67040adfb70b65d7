use Rattle.std.proofs.Common.{◌≡◌, length, take}
use Rattle.ref_frames.specs.Made.{ArePutIn}
use Rattle.ref_frames.proofs.running.parameters_of.Given as goal

abbrev pub invariant-loop-key : goal.invariant-loop-key
invariant-loop-key l = record {
  put : ArePutIn l.entities (take l.key-index l.key-items) l.lists.items;
  many : length l.lists.items ≡ length l.entities;
}
