-- A node that names an object of the whole run, or another one.
use Rattle.std.proofs.Common.{sym, subst}
use Rattle.ref_cells.specs.Answers.{Gives}
use Rattle.ref_state.specs.declared.notes.Notes.{Notes}
use Rattle.ref_statements.specs.Rows.{Row}
use Rattle.ref_machine.specs.Step.{placed}
use Rattle.ref_machine.proofs.steps.does.Goals as goal

pub returns-in-Some-clause-row : goal.returns-in-Some-clause-row
returns-in-Some-clause-row c =
    λ f rest e.
    subst (λ (row : Row). Gives (λ (notes : Notes). record c.names.new.state { notes = notes }) c.names.result (placed c.args.state.now rest row))
    (sym (c.in-Some.ensures f rest c.args.word e)) (c.names.ensures.row f rest e)
