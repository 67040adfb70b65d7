use Rattle.std.proofs.Common.{◌≡◌, drop}
use Rattle.carried_trees.specs.carried_types.Terms.{all_in}
use Rattle.carried_trees.proofs.carried_types.types.all_in.Given as goal

abbrev pub invariant-loop-id : goal.invariant-loop-id
invariant-loop-id l = all_in l.given (drop l.id-index l.list) ≡ all_in l.given l.list
