use Rattle.valid_unit_laws.proofs.object_initialiser_laws.listed_declarations.Apart.{listed_apart}
use Rattle.valid_unit_laws.proofs.object_initialiser_laws.listed_declarations.laws.listed_apart.Goals as goal

pub returns : goal.returns
returns c = listed_apart
