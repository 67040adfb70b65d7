use Rattle.covering_laws.proofs.covered_needs.Named.{names_met}
use Rattle.covering_laws.proofs.covered_needs.laws.names_met.Goals as goal

pub returns : goal.returns
returns c s n node site target function library memory call objects all = names_met s n node site target function library memory call objects all
