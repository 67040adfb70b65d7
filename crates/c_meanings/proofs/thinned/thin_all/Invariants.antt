use Rattle.std.proofs.Common.{false}
use Rattle.c_meanings.specs.Thinned.{AreThinned}
use Rattle.c_meanings.proofs.thinned.thin_all.Given as goal

-- what is kept is so
abbrev pub invariant-loop-i : goal.invariant-loop-i
invariant-loop-i l = AreThinned l.syntax l.results false l.links l.thinned
