use Rattle.std.proofs.Common.{◌≡◌, refl, ap, subst, arith}
use Rattle.sol_model.specs.Families.{Has}
use Rattle.sol_model.specs.Systems.{width_of}
use Rattle.sol_model.proofs.Shown.{zeros_show_nothing}
use Rattle.set_rows.specs.declared.view.View.{View}
use Rattle.set_rows.specs.Views.{fresh, known, words_of, SamePart}
use Rattle.set_rows.specs.Calls.{view}
use Rattle.unit_report.proofs.unit_answers.answering.answer_on_rows.Goals as goal

pub solved_and_asked-requires-clause-fresh : goal.solved_and_asked-requires-clause-fresh
solved_and_asked-requires-clause-fresh g c κs within row location h =
    let S = c.args.system in
    zeros_show_nothing (width_of S) (words_of S) row location (subst (λ (v : View). Has (known v) row location) c.in_ok-table.ensures.view h)

pub returns-clause-solved : goal.returns-clause-solved
returns-clause-solved g c =
    let S = c.args.system in
    let start = view c.in_ok-table.seat in
    let start_is : start ≡ fresh S = c.in_ok-table.ensures.view in
    let none : start.ors ≡ 0 = ap (λ (v : View). v.ors) start_is in
    let done = c.in_ok-seat.ensures.solved in
    record {
      system_is = refl;
      table_is = c.in_ok-table.ensures.system;
      own = c.in_ok-seat.ensures.own;
      closed = done.last;
      whole = subst (λ (v : View). SamePart v (view c.in_ok-seat.seat)) start_is done.whole;
      family = done.family;
      least = done.least;
      work = done.work;
      work_is = done.work_is;
      bound = (let b = done.bound in omega arith);
    }
