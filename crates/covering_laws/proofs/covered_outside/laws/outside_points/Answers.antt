use Rattle.covering_laws.proofs.covered_outside.Given.{outside_points}
use Rattle.covering_laws.proofs.covered_outside.laws.outside_points.Goals as goal

pub returns : goal.returns
returns c s e i memory inst o entry at key = outside_points s e i memory inst o entry at key
