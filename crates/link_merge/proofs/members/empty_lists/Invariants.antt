use Rattle.std.proofs.Common.{◌≡◌, [], replicate}
use Rattle.link_merge.specs.Parted.{lists_of}
use Rattle.link_merge.proofs.members.empty_lists.Given as goal

abbrev pub invariant-loop : goal.invariant-loop
invariant-loop l = lists_of l.lists.items ≡ replicate l.counter []
