use Rattle.std.proofs.Common.{◌≡◌, take, map}
use Rattle.core_nodes.specs.kept_nodes.Copied.{number_of}
use Rattle.core_nodes.proofs.kept_nodes.copies.renumbered.Given as goal

abbrev pub invariant-loop-child : goal.invariant-loop-child
invariant-loop-child l = l.list.items ≡ map (number_of l.from l.numbers) (take l.child-index l.children)
