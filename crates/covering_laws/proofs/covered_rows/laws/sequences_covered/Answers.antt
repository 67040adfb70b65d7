use Rattle.covering_laws.proofs.covered_rows.Values.{sequence_in}
use Rattle.covering_laws.proofs.covered_rows.laws.sequences_covered.Goals as goal

pub returns : goal.returns
returns c s n a b t memory v node may_hold ty h =
    sequence_in s.program s.space s.system s.is_system s.family s.closed s.grounds n t may_hold a b node ty memory v h
