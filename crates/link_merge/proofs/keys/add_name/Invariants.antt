use Rattle.std.proofs.Common.{◌≡◌, ◌++◌, take}
use Rattle.link_merge.proofs.keys.add_name.Given as goal

abbrev pub invariant-loop-byte : goal.invariant-loop-byte
invariant-loop-byte l = l.list.items ≡ l.initial.list.items ++ take l.byte-index l.text
