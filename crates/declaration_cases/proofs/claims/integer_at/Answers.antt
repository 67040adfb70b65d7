use Rattle.declaration_cases.proofs.claims.integer_at.Goals as goal

pub specs_row-requires-clause-results : goal.specs_row-requires-clause-results
specs_row-requires-clause-results c = c.no_results-results.ensures.within c.in_ok-unit.unit
