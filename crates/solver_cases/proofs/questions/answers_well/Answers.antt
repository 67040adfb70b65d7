use Rattle.std.proofs.Common.{subst}
use Rattle.sol_model.specs.Families.{Has}
use Rattle.sol_model.specs.Systems.{width_of}
use Rattle.sol_model.proofs.Shown.{zeros_show_nothing}
use Rattle.set_rows.specs.Views.{known, words_of}
use Rattle.set_rows.specs.declared.view.View.{View}
use Rattle.solver_cases.proofs.questions.answers_well.Goals as goal

pub solve_and_ask_by_desk-requires-clause-fresh : goal.solve_and_ask_by_desk-requires-clause-fresh
solve_and_ask_by_desk-requires-clause-fresh g c κs within row location h =
    let S = c.args.system.now in
    zeros_show_nothing (width_of S) (words_of S) row location (subst (λ (v : View). Has (known v) row location) c.in_ok-table.ensures.view h)
