use Rattle.covering_laws.proofs.covered_outside.Given.{entries_take}
use Rattle.covering_laws.proofs.covered_outside.laws.entries_take.Goals as goal

pub returns : goal.returns
returns c s e k l key to memory cell o entry at first ty h = entries_take s e k l key to memory cell o entry at first ty h
