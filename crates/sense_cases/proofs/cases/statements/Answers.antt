use Rattle.std.proofs.Common.{refl}
use Rattle.sense_cases.proofs.Computing.{computing}
use Rattle.sense_cases.proofs.cases.statements.Goals as goal

pub returns : goal.returns
unfolding computing
returns c = record {
  switched = refl;
  nested_switches = refl;
  declared_in_switch = refl;
  loops = refl;
  declaration_in_loop = refl;
  branches = refl;
  else_if = refl;
  jumps = refl;
  run_declarations = refl;
  for_parts = refl;
  nothing_returned = refl;
}
