use Rattle.declaration_laws.proofs.declared_type_laws.owner_laws.held_parts.Whole.{units_hold_parts}
use Rattle.declaration_laws.proofs.declared_type_laws.owner_laws.held_parts.laws.parts_held.Goals as goal

pub returns : goal.returns
returns c = units_hold_parts
