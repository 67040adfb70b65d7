use Rattle.std.proofs.Common.{◌≡◌, take}
use Rattle.unit_finish.proofs.planted_nodes.kinds.copied_bytes.Given as goal

abbrev pub invariant-loop-byte : goal.invariant-loop-byte
invariant-loop-byte l = l.copy.items ≡ take l.byte-index l.bytes
