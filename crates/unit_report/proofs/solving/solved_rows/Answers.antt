use Rattle.std.proofs.Common.{◌≡◌, ℕ, ◌*◌, ◌^◌, refl, sym, ap, ◌∙◌, subst, arith}
use Rattle.sol_model.specs.Families.{Has}
use Rattle.sol_model.specs.Systems.{width_of}
use Rattle.sol_model.proofs.Shown.{zeros_show_nothing}
use Rattle.set_rows.specs.declared.view.View.{View}
use Rattle.set_rows.specs.Views.{fresh, known, words_of, SamePart}
use Rattle.set_rows.specs.Calls.{view}
use Rattle.unit_report.proofs.solving.solved_rows.Goals as goal

pub solve-requires-clause-fresh : goal.solve-requires-clause-fresh
solve-requires-clause-fresh g c κs within row location h =
    let S = c.args.system.now in
    zeros_show_nothing (width_of S) (words_of S) row location (subst (λ (v : View). Has (known v) row location) c.in_ok-table.ensures.view h)

pub returns-clause-solved : goal.returns-clause-solved
returns-clause-solved g c =
    let S = c.args.system.now in
    let start = view c.in_ok-table.seat in
    let done = view c.solve.new.seat in
    let last = view c.copy_rows.new.seat in
    let looked = c.in_ok-rows.ensures.view in
    let closed = c.in_ok-solve.ensures.closed in
    let bound = c.in_ok-solve.ensures.bound in
    let start_is : start ≡ fresh S = c.in_ok-table.ensures.view in
    let none : start.ors ≡ 0 = ap (λ (v : View). v.ors) start_is in
    record {
      system_is = refl;
      table_is = c.in_ok-table.ensures.system;
      own = c.in_ok-rows.ensures.own;
      closed = looked.last ∙ closed.last;
      whole = subst (λ (v : View). SamePart v last) start_is (ap (λ (h : ℕ). start.part * 2 ^ h) looked.halvings ∙ closed.part ∙ ap (λ (p : ℕ). p * 2 ^ start.halvings) (sym looked.part));
      family = known done;
      least = c.in_ok-solve.ensures.least;
      work = bound.0;
      work_is = bound.1;
      bound = (let b = bound.2 in let o = looked.ors in omega arith);
    }
