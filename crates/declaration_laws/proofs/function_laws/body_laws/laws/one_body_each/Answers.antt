use Rattle.declaration_laws.proofs.function_laws.body_laws.Apart.{one_body_each}
use Rattle.declaration_laws.proofs.function_laws.body_laws.laws.one_body_each.Goals as goal

pub returns : goal.returns
returns c = one_body_each
