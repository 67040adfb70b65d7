use Rattle.declaration_laws.proofs.declared_type_laws.owned_locals.Reading.{file_names}
use Rattle.declaration_laws.proofs.declared_type_laws.owned_locals.laws.file_names_linked.Goals as goal

pub returns : goal.returns
returns c = file_names
