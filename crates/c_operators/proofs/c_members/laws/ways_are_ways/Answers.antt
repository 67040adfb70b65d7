use Rattle.c_operators.proofs.c_members.Found.{ways_are_ways}
use Rattle.c_operators.proofs.c_members.laws.ways_are_ways.Goals as goal

pub returns : goal.returns
returns c = ways_are_ways
