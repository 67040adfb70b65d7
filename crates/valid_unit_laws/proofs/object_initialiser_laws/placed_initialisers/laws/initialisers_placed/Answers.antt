use Rattle.valid_unit_laws.proofs.object_initialiser_laws.placed_initialisers.Whole.{units_place}
use Rattle.valid_unit_laws.proofs.object_initialiser_laws.placed_initialisers.laws.initialisers_placed.Goals as goal

pub returns : goal.returns
returns c = units_place
