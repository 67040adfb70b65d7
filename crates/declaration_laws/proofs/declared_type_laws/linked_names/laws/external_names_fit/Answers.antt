use Rattle.declaration_laws.proofs.declared_type_laws.linked_names.Fitting.{external_names_fit}
use Rattle.declaration_laws.proofs.declared_type_laws.linked_names.laws.external_names_fit.Goals as goal

pub returns : goal.returns
returns c = external_names_fit
