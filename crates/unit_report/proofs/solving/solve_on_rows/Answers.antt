use Rattle.unit_report.proofs.solving.solve_on_rows.Goals as goal

pub returns-clause-solved : goal.returns-clause-solved
returns-clause-solved g c = c.in_ok-rows.ensures.solved
