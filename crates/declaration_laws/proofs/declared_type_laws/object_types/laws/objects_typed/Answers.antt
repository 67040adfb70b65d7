use Rattle.declaration_laws.proofs.declared_type_laws.object_types.Typing.{objects_typed}
use Rattle.declaration_laws.proofs.declared_type_laws.object_types.laws.objects_typed.Goals as goal

pub returns : goal.returns
returns c = objects_typed
