use Rattle.c_meanings.specs.Linkages.{AreLinkages}
use Rattle.c_meanings.proofs.earlier.thin_symbols.Given as goal

-- what is kept is so
abbrev pub invariant-loop-i : goal.invariant-loop-i
invariant-loop-i l = AreLinkages l.syntax l.results l.names l.linkages
