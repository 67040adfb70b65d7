use Rattle.declaration_laws.proofs.function_laws.case_laws.Cases.{cases_differ}
use Rattle.declaration_laws.proofs.function_laws.case_laws.laws.cases_differ.Goals as goal

pub returns : goal.returns
returns c = λ tokens unit tree tag_number name u cut is built w entities sound rows bodies a node at. cases_differ tokens unit tree tag_number name u cut is built w entities sound rows bodies a node at
