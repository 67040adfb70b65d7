use Rattle.declaration_cases.proofs.claims.counts.Goals as goal

pub enumerator_row-requires-clause-results : goal.enumerator_row-requires-clause-results
enumerator_row-requires-clause-results c = c.no_results-results.ensures.within c.in_ok-unit.unit
