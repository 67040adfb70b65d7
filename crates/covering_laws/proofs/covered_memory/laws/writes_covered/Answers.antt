use Rattle.covering_laws.proofs.covered_memory.Access.{write_law}
use Rattle.covering_laws.proofs.covered_memory.laws.writes_covered.Goals as goal

pub returns : goal.returns
returns c g system grounds memory through place t row v after all h few stores value e = write_law g system grounds memory through place t row v after all h few stores value e
