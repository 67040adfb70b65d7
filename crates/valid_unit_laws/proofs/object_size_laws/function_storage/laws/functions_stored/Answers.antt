use Rattle.valid_unit_laws.proofs.object_size_laws.function_storage.Whole.{functions_stored}
use Rattle.valid_unit_laws.proofs.object_size_laws.function_storage.laws.functions_stored.Goals as goal

pub returns : goal.returns
returns c = functions_stored
