use Rattle.covering_laws.proofs.covered_needs.Fresh.{fresh_met}
use Rattle.covering_laws.proofs.covered_needs.laws.fresh_met.Goals as goal

pub returns : goal.returns
returns c s n node site target function library row call direct has at bare = fresh_met s n node site target function library row call direct has at bare
