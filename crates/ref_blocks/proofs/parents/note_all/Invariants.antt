-- What the nodes so far are above of.
use Rattle.std.proofs.Common.{◌≡◌, ℕ, ◌<◌, None, length, take, get_or}
use Rattle.ref_blocks.specs.Ways.{parent_from}
use Rattle.ref_blocks.proofs.parents.note_all.Given as goal

abbrev pub invariant-loop-p : goal.invariant-loop-p
invariant-loop-p l = record {
  count : length l.parents ≡ length l.nodes;
  each : (n : ℕ) → n < length l.nodes → get_or l.parents n None ≡ parent_from n 0 (take l.p l.nodes);
}
