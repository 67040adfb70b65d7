use Rattle.covering_laws.proofs.covered_memory.Grounds.{grounds_of}
use Rattle.covering_laws.proofs.covered_memory.laws.systems_grounded.Goals as goal

pub returns : goal.returns
returns c p space system is_space made named reaches of = grounds_of p space system is_space made named reaches of
