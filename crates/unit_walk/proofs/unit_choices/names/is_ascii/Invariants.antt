use Rattle.std.proofs.Common.{ℕ, ◌<◌, get_or}
use Rattle.unit_walk.proofs.unit_choices.names.is_ascii.Given as goal

-- those so far are
abbrev pub invariant-loop-byte : goal.invariant-loop-byte
invariant-loop-byte l = (k d : ℕ) → k < l.byte-index → get_or l.bytes k d < 128
