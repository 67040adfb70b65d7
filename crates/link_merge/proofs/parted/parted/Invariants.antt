use Rattle.link_merge.specs.Parted.{lists_of, AreParted}
use Rattle.link_merge.proofs.parted.parted.Given as goal

abbrev pub invariant-loop : goal.invariant-loop
invariant-loop l = AreParted l.first (lists_of l.kids) l.class.items
