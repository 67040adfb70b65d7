use Rattle.covering_laws.proofs.covered_memory.Access.{read_law}
use Rattle.covering_laws.proofs.covered_memory.laws.reads_covered.Goals as goal

pub returns : goal.returns
returns c g system grounds memory through place t row v all h few loads e = read_law g system grounds memory through place t row v all h few loads e
