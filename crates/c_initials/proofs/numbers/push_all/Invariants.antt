use Rattle.std.proofs.Common.{◌≡◌, ◌++◌, take}
use Rattle.c_initials.proofs.numbers.push_all.Given as goal

abbrev pub invariant-loop-node : goal.invariant-loop-node
invariant-loop-node l = l.stack.items ≡ l.initial.stack.items ++ take l.node-index l.nodes
