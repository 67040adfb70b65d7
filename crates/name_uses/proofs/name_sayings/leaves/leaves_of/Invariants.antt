use Rattle.std.proofs.Common.{◌≡◌, ◌++◌, drop}
use Rattle.c_named.specs.Lists.{leaves_of}
use Rattle.name_uses.proofs.name_sayings.leaves.leaves_of.Given as goal

-- the leaves so far with those of what is left
abbrev pub invariant-loop-declared : goal.invariant-loop-declared
invariant-loop-declared l = l.list.items ++ leaves_of (drop l.declared-index l.declarations) ≡ leaves_of l.declarations
