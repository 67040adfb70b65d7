use Rattle.c_operators.proofs.c_members.Found.{ways_are_found}
use Rattle.c_operators.proofs.c_members.laws.ways_are_found.Goals as goal

pub returns : goal.returns
returns c = ways_are_found
