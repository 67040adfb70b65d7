use Rattle.declaration_laws.proofs.definition_laws.block_laws.Whole.{blocks_differ}
use Rattle.declaration_laws.proofs.definition_laws.block_laws.laws.blocks_differ.Goals as goal

pub returns : goal.returns
returns c = blocks_differ
