use Rattle.covering_laws.proofs.covered_rows.Values.{fetch_in}
use Rattle.covering_laws.proofs.covered_rows.laws.fetches_covered.Goals as goal

pub returns : goal.returns
returns c s n q t memory place v node whole all at e =
    fetch_in s.program s.space s.system s.is_system s.family s.closed s.grounds n t whole q node memory place v all at e
