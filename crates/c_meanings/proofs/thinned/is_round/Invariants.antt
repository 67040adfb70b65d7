use Rattle.name_chains.specs.Links.{IsLinkOf}
use Rattle.name_chains.proofs.Linked.{left}
use Rattle.c_meanings.proofs.Rounds.{IsTail}
use Rattle.c_meanings.proofs.thinned.is_round.Given as goal

-- what was compared is alike, and what is left stands before it
abbrev pub invariant-loop-other : goal.invariant-loop-other
invariant-loop-other l = record {
  one : IsLinkOf l.links l.one;
  other : IsLinkOf l.links l.other;
  tail : IsTail l.syntax l.results l.links l.fn.last l.kept l.fn.declared l.one l.other;
}

abbrev pub decreases-loop-other : goal.decreases-loop-other
decreases-loop-other l = left l.other
