use Rattle.std.proofs.Common.{◌≡◌, ℕ, drop}
use Rattle.c_senses.specs.Sense.{Sense}
use Rattle.tree_reads.specs.Sources.{source_read}
use Rattle.c_named.specs.Lists.{some_defines}
use Rattle.c_named.proofs.internal.some_defines.Given as goal

-- one of those that are left defines just if one of all does
abbrev pub invariant-loop-leaf : goal.invariant-loop-leaf
invariant-loop-leaf l = (sense : ℕ → Sense) → some_defines (source_read l.syntax) sense (drop l.leaf-index l.leaves) ≡ some_defines (source_read l.syntax) sense l.leaves
