use Rattle.c_operators.proofs.c_members.Nesting.{table_ways_are_found}
use Rattle.c_operators.proofs.c_members.laws.table_ways_are_found.Goals as goal

pub returns : goal.returns
returns c = table_ways_are_found
