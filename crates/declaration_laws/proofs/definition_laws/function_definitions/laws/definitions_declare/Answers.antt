use Rattle.declaration_laws.proofs.definition_laws.function_definitions.Reading.{definitions_declare}
use Rattle.declaration_laws.proofs.definition_laws.function_definitions.laws.definitions_declare.Goals as goal

pub returns : goal.returns
returns c = definitions_declare
