use Rattle.declaration_laws.proofs.whole_types.Wholes.{types_whole}
use Rattle.declaration_laws.proofs.whole_types.laws.types_whole.Goals as goal

pub returns : goal.returns
returns c = types_whole
