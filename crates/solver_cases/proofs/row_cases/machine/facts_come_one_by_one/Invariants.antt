use Rattle.sol_model.specs.Systems.{Fits}
use Rattle.solver_cases.proofs.row_cases.machine.facts_come_one_by_one.Given as goal

abbrev pub invariant-loop-event : goal.invariant-loop-event
invariant-loop-event g l = Fits l.system l.state.rows
