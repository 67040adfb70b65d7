use Rattle.std.proofs.Common.{◌≡◌, drop}
use Rattle.carried_trees.specs.Copied.{all_flagged}
use Rattle.carried_trees.proofs.nodes.all_flagged.Given as goal

abbrev pub invariant-loop-child : goal.invariant-loop-child
invariant-loop-child l = all_flagged l.flags (drop l.child-index l.children) ≡ all_flagged l.flags l.children
