use Rattle.link_merge.specs.Counted.{FirstsUpTo}
use Rattle.link_merge.proofs.counted.first_lists.Given as goal

abbrev pub invariant-loop-here : goal.invariant-loop-here
invariant-loop-here l = FirstsUpTo l.units l.tags l.leaders l.here l.list.items
