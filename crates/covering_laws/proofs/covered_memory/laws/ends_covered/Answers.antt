use Rattle.covering_laws.proofs.covered_memory.Changes.{end_law}
use Rattle.covering_laws.proofs.covered_memory.laws.ends_covered.Goals as goal

pub returns : goal.returns
returns c g system grounds memory i all = end_law g system grounds memory i all
