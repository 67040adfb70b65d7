use Rattle.declaration_laws.proofs.definition_laws.Reading.{block_parts}
use Rattle.declaration_laws.proofs.definition_laws.laws.block_parts_are_defined.Goals as goal

pub returns : goal.returns
returns c = block_parts
