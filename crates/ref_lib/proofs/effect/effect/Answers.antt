use Rattle.std.proofs.Common.{Option, subst}
use Rattle.c_types.specs.Table.{type_of}
use Rattle.ref_cells.specs.Answers.{Gives}
use Rattle.ref_elements.specs.declared.outcome.LibOutcome.{LibOutcome}
use Rattle.ref_elements.specs.Outcomes.{Effected}
use Rattle.ref_lib.specs.declared.rows.Row.{Row}
use Rattle.ref_lib.specs.Effects.{row_effect, effect}
use Rattle.ref_lib.proofs.effect.effect.Goals as goal

pub returns-clause-value : goal.returns-clause-value
unfolding effect
returns-clause-value c =
    let at = row_effect c.args.types.now c.args.memory.now in
    subst (λ (row : Option Row). Gives (λ (o : LibOutcome). let r : Effected = record { memory = c.row_effect.new.memory; outcome = o } in r) c.row_effect.result (at row c.args.fresh.0 c.args.fresh.1 (type_of c.args.types.now c.args.result_type.0) c.args.arguments.now c.args.word)) c.row_of-row.ensures c.row_effect.ensures.value
