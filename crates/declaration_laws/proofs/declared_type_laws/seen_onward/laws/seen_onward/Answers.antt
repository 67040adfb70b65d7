use Rattle.declaration_laws.proofs.declared_type_laws.seen_onward.Reading.{seen_onward}
use Rattle.declaration_laws.proofs.declared_type_laws.seen_onward.laws.seen_onward.Goals as goal

pub returns : goal.returns
returns c = seen_onward
