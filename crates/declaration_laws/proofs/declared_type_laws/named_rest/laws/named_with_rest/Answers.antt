use Rattle.declaration_laws.proofs.declared_type_laws.named_rest.Whole.{named_whole}
use Rattle.declaration_laws.proofs.declared_type_laws.named_rest.laws.named_with_rest.Goals as goal

pub returns : goal.returns
returns c = named_whole
