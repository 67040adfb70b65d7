use Rattle.std.proofs.Common.{◌≡◌, drop}
use Rattle.carried_trees.specs.carried_types.Members.{are_flagged}
use Rattle.carried_trees.proofs.carried_types.completing.are_flagged.Given as goal

abbrev pub invariant-loop-member : goal.invariant-loop-member
invariant-loop-member l = are_flagged l.given (drop l.member-index l.members) ≡ are_flagged l.given l.members
