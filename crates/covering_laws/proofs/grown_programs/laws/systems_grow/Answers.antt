use Rattle.covering_laws.proofs.grown_programs.Systems.{systems_grow}
use Rattle.covering_laws.proofs.grown_programs.laws.systems_grow.Goals as goal

pub returns : goal.returns
returns c p more system valid made named follow is = systems_grow p more system valid made named follow is
