use Rattle.expression_rows.proofs.c_rows.primaries.enclosed.Goals as goal

pub returns-clause-within : goal.returns-clause-within
returns-clause-within c = c.passed_on.ensures.within c.args.unit.now c.requires.results
