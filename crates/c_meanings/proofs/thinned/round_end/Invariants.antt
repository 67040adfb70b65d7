use Rattle.name_chains.specs.Links.{IsLinkOf}
use Rattle.c_meanings.proofs.thinned.round_end.Given as goal

-- what is left is a list
abbrev pub invariant-loop : goal.invariant-loop
invariant-loop l = IsLinkOf l.links l.at
