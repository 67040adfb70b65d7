use Rattle.declaration_laws.proofs.function_laws.Functions.{functions_fit}
use Rattle.declaration_laws.proofs.function_laws.laws.functions_fit.Goals as goal

pub returns : goal.returns
returns c = λ tokens unit tree tag_number name u bound cut is bind built w entities sound rows bodied n node at. functions_fit tokens unit tree tag_number name u bound cut is bind built w entities sound rows bodied n node at
