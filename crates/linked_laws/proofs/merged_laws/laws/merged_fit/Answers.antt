use Rattle.linked_laws.proofs.merged_laws.Fitting.{tags_fit}
use Rattle.linked_laws.proofs.merged_laws.laws.merged_fit.Goals as goal

pub returns : goal.returns
returns c = tags_fit
