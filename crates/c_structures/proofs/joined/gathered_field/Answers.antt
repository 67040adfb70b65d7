use Rattle.c_structures.proofs.joined.gathered_field.Goals as goal

pub returns-clause-row : goal.returns-clause-row
returns-clause-row c = λ w uses k flexible. c.field_row.ensures.row w uses k flexible (c.in-Ok.ensures c.args.unit.now w uses)
