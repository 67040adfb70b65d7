use Rattle.std.proofs.Common.{sym, ◌∙◌, subst}
use Rattle.sol_model.specs.Families.{Has}
use Rattle.set_rows.specs.declared.view.View.{View}
use Rattle.set_rows.specs.Views.{known}
use Rattle.set_rows.specs.Calls.{view}
use Rattle.set_rows.proofs.Samples.{met_first, met_second}
use Rattle.solver_cases.proofs.row_cases.shared.add_by_two.Goals as goal

pub returns-clause-seen : goal.returns-clause-seen
returns-clause-seen g c =
    let v : View = view c.join-seat.result.0 in
    let w : View = view c.join-seat.result.1 in
    let first = c.join-seat.ensures.first in
    let second = c.join-seat.ensures.second in
    subst (λ (u : View). Has (known u) 1 0 × Has (known u) 2 0) (sym c.meet.ensures.view)
    (met_first v w 1 0 first.1.1, met_second v w 2 0 (second.0.1 ∙ sym first.0.1) second.1.1)
