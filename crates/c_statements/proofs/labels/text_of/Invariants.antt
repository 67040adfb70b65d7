use Rattle.std.proofs.Common.{◌≡◌, take}
use Rattle.std.specs.Prelude.{string_bytes}
use Rattle.c_statements.specs.Labels.{IsAscii}
use Rattle.c_statements.proofs.labels.text_of.Given as goal

abbrev pub invariant-loop-byte : goal.invariant-loop-byte
invariant-loop-byte l = IsAscii l.bytes → string_bytes l.string ≡ take l.byte-index l.bytes
