use Rattle.std.proofs.Common.{◌≡◌, ◌++◌, drop}
use Rattle.unit_finish.specs.unit_parts.Renamed.{literals_in}
use Rattle.unit_finish.proofs.unit_parts.literals.literals_in.Given as goal

abbrev pub invariant-loop-node : goal.invariant-loop-node
invariant-loop-node l = l.list.items ++ literals_in (drop l.node-index l.nodes) ≡ literals_in l.nodes
