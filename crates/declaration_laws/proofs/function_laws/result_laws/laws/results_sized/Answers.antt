use Rattle.declaration_laws.proofs.function_laws.result_laws.Results.{results_sized}
use Rattle.declaration_laws.proofs.function_laws.result_laws.laws.results_sized.Goals as goal

pub returns : goal.returns
returns c = λ tokens unit tree tag_number name u cut is built bodied e entity at storage. results_sized tokens unit tree tag_number name u cut is built bodied e entity at storage
