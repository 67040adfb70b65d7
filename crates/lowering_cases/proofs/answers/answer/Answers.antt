use Rattle.std.proofs.Common.{ℕ}
use Rattle.lowering_cases.proofs.answers.answer.Goals as goal

pub lower_unit-requires-clause-first : goal.lower_unit-requires-clause-first
lower_unit-requires-clause-first c = c.children_first.ensures c.in-Ok.found 0 c.in-Ok-parse_unit.tree (λ (d : ℕ). d) c.in-Ok-parse_unit.ensures
