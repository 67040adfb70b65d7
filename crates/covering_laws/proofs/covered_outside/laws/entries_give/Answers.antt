use Rattle.covering_laws.proofs.covered_outside.Given.{entries_give}
use Rattle.covering_laws.proofs.covered_outside.laws.entries_give.Goals as goal

pub returns : goal.returns
returns c s e l t memory v o entry function first ty scalar h = entries_give s e l t memory v o entry function first ty scalar h
