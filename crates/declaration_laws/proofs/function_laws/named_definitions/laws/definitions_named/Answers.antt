use Rattle.declaration_laws.proofs.function_laws.named_definitions.Naming.{definitions_named}
use Rattle.declaration_laws.proofs.function_laws.named_definitions.laws.definitions_named.Goals as goal

pub returns : goal.returns
returns c = definitions_named
