use Rattle.declaration_laws.proofs.label_names.Binding.{labels_bound}
use Rattle.declaration_laws.proofs.label_names.laws.labels_bound.Goals as goal

pub returns : goal.returns
returns c = labels_bound
