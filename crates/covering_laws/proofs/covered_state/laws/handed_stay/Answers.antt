use Rattle.covering_laws.proofs.covered_state.Stays.{handed_stay}
use Rattle.covering_laws.proofs.covered_state.laws.handed_stay.Goals as goal

pub returns : goal.returns
returns c world old new handed extends h = handed_stay world old new extends handed h
