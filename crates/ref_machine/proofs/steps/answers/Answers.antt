use Rattle.std.proofs.Common.{Result, ap, subst}
use Rattle.ref_cells.specs.Answers.{Gives}
use Rattle.ref_cells.specs.declared.cells.MemFault.{MemFault}
use Rattle.ref_state.specs.declared.notes.Notes.{Notes}
use Rattle.ref_calls.specs.Outcomes.{outcome}
use Rattle.ref_machine.proofs.steps.answers.Goals as goal

pub returns-in-Ok : goal.returns-in-Ok
returns-in-Ok c =
    λ before given h err.
    ap (outcome c.args.n) (subst (λ (r : Result Notes MemFault). Gives (λ notes. record c.args.state.now { notes = notes }) r given) c.in-Ok.is h)
