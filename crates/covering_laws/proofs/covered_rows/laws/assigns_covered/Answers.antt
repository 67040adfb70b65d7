use Rattle.covering_laws.proofs.covered_rows.Values.{assign_in}
use Rattle.covering_laws.proofs.covered_rows.laws.assigns_covered.Goals as goal

pub returns : goal.returns
returns c s n q v t memory after place value node whole ty all at h e =
    assign_in s.program s.space s.system s.is_system s.family s.closed s.grounds n t whole q v node ty memory after place value all at h e
