use Rattle.valid_unit_laws.proofs.body_node_laws.own_initials.Own.{units_initialise_own}
use Rattle.valid_unit_laws.proofs.body_node_laws.own_initials.laws.units_initialise_own.Goals as goal

pub returns : goal.returns
returns c = units_initialise_own
