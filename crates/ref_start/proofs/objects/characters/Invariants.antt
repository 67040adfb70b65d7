use Rattle.std.proofs.Common.{◌≡◌, take}
use Rattle.ref_start.specs.Objects.{characters}
use Rattle.ref_start.proofs.objects.characters.Given as goal

abbrev pub invariant-loop-byte : goal.invariant-loop-byte
invariant-loop-byte l = l.text.items ≡ characters (take l.byte-index l.bytes)
