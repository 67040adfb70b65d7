use Rattle.declaration_laws.proofs.function_laws.body_returns.Built.{returns_fit}
use Rattle.declaration_laws.proofs.function_laws.body_returns.laws.returns_fit.Goals as goal

pub returns : goal.returns
returns c = λ tokens unit tree tag_number name u cut is built w entities sound rows bodied n node at e entity there storage. returns_fit tokens unit tree tag_number name u cut is built w entities sound rows bodied n node at e entity there storage
