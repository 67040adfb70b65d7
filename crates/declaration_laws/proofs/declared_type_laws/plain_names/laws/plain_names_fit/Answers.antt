use Rattle.declaration_laws.proofs.declared_type_laws.plain_names.Fitting.{plain_names_fit}
use Rattle.declaration_laws.proofs.declared_type_laws.plain_names.laws.plain_names_fit.Goals as goal

pub returns : goal.returns
returns c = plain_names_fit
