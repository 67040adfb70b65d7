use Rattle.declaration_laws.proofs.declared_type_laws.function_types.Reading.{functions_given}
use Rattle.declaration_laws.proofs.declared_type_laws.function_types.laws.functions_given.Goals as goal

pub returns : goal.returns
returns c = functions_given
