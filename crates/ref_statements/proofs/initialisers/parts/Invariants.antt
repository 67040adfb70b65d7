-- The parts that are left.
use Rattle.std.proofs.Common.{◌≡◌, ◌++◌, drop}
use Rattle.core_tree.specs.Seen.{core_of}
use Rattle.ref_statements.specs.Initialisers.{parts}
use Rattle.ref_statements.proofs.initialisers.parts.Given as goal

abbrev pub invariant-loop-k : goal.invariant-loop-k
invariant-loop-k l =
    l.list.items ++ parts (core_of l.world.trees) (drop l.k l.paths) (drop l.k l.children) l.values
    ≡ parts (core_of l.world.trees) l.paths l.children l.values
