use Rattle.valid_unit_laws.proofs.plain_functions.Whole.{functions_plain}
use Rattle.valid_unit_laws.proofs.plain_functions.laws.functions_plain.Goals as goal

pub returns : goal.returns
returns c = functions_plain
