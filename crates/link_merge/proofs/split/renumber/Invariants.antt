use Rattle.link_merge.specs.Parted.{IsRenumbered}
use Rattle.link_merge.proofs.split.renumber.Given as goal

abbrev pub invariant-loop-here : goal.invariant-loop-here
invariant-loop-here l = IsRenumbered l.initial.class.items l.class.items l.list l.leads l.here
