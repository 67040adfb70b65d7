use Rattle.covering_laws.proofs.covered_state.Stays.{frames_stay}
use Rattle.covering_laws.proofs.covered_state.laws.frames_stay.Goals as goal

pub returns : goal.returns
returns c world old new frames extends h = frames_stay world old new extends frames h
