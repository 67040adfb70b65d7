use Rattle.declaration_laws.proofs.function_laws.Functions.{gotos_fit}
use Rattle.declaration_laws.proofs.function_laws.laws.gotos_fit.Goals as goal

pub returns : goal.returns
returns c = λ tokens unit tree tag_number name u bound cut is bind built w entities sound rows e b entity there storage body n node at up. gotos_fit tokens unit tree tag_number name u bound cut is bind built w entities sound rows e b entity there storage body n node at up
