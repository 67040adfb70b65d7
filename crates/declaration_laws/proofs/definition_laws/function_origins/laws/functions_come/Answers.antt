use Rattle.declaration_laws.proofs.definition_laws.function_origins.Coming.{functions_come}
use Rattle.declaration_laws.proofs.definition_laws.function_origins.laws.functions_come.Goals as goal

pub returns : goal.returns
returns c = functions_come
