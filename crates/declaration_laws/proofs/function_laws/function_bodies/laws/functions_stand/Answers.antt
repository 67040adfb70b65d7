use Rattle.declaration_laws.proofs.function_laws.function_bodies.Reading.{functions_stand}
use Rattle.declaration_laws.proofs.function_laws.function_bodies.laws.functions_stand.Goals as goal

pub returns : goal.returns
returns c = functions_stand
