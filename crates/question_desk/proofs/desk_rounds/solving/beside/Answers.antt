use Rattle.std.proofs.Common.{OnOk, sym, subst}
use Rattle.set_rows.specs.declared.view.View.{View}
use Rattle.set_rows.specs.Views.{half_given}
use Rattle.set_rows.specs.Calls.{view}
use Rattle.alias_query.specs.ask_rounds.Solves.{HasSolved}
use Rattle.alias_query.specs.ask_rounds.Tries.{HasAsked}
use Rattle.alias_query.proofs.ask_rounds.Joining.{on_ok, solved_beside}
use Rattle.question_desk.proofs.desk_rounds.solving.beside.Goals as goal

pub returns-clause-solved : goal.returns-clause-solved
returns-clause-solved g c =
    let S = c.args.ground.now.system.now in
    let v = view c.args.seat in
    let a = view c.join-seat.result.0.0 in
    let b = view c.join-seat.result.1.0 in
    let split = c.split-asker.ensures in
    let asked : HasAsked (half_given v) b = subst (λ (x : View). HasAsked x b) split.new c.join-seat.ensures.second.1.0 in
    on_ok c.join-seat.result.0.1 _ _ (λ one. subst (λ (w : View). HasSolved S v w) (sym c.meet.ensures.view) (solved_beside S v a b one asked))
    (subst (λ (x : View). OnOk c.join-seat.result.0.1 (HasSolved S x a)) split.view c.join-seat.ensures.first.1)
