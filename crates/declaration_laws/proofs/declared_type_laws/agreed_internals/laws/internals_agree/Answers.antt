use Rattle.declaration_laws.proofs.declared_type_laws.agreed_internals.Agreeing.{internals_agree}
use Rattle.declaration_laws.proofs.declared_type_laws.agreed_internals.laws.internals_agree.Goals as goal

pub returns : goal.returns
returns c = internals_agree
