use Rattle.covering_laws.proofs.covered_rows.Nexts.{varargs_in}
use Rattle.covering_laws.proofs.covered_rows.laws.varargs_covered.Goals as goal

pub returns : goal.returns
returns c s n e i t children memory inst node ty at inside key =
    varargs_in s.program s.space s.system s.is_system s.family s.closed s.grounds n e t children node ty memory i inst at inside key
