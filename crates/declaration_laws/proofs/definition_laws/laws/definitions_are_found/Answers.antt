use Rattle.declaration_laws.proofs.definition_laws.Reading.{definitions}
use Rattle.declaration_laws.proofs.definition_laws.laws.definitions_are_found.Goals as goal

pub returns : goal.returns
returns c = definitions
