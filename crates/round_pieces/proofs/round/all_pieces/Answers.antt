use Rattle.std.proofs.Common.{IfOk, sym, ◌∙◌, ap, subst}
use Rattle.set_rows.specs.declared.view.View.{View}
use Rattle.set_rows.specs.Views.{half_given, met}
use Rattle.set_rows.specs.Calls.{view, system_of}
use Rattle.round_pieces.specs.declared.joining.Told.{Told}
use Rattle.round_pieces.specs.Rounds.{HasWorked}
use Rattle.round_pieces.specs.Turns.{HasShares}
use Rattle.round_pieces.proofs.Parts.{worked_round}
use Rattle.round_pieces.proofs.Sharing.{shares_round}
use Rattle.new_members.proofs.Answering.{if_ok}
use Rattle.round_pieces.proofs.round.all_pieces.Goals as goal

pub returns-clause-worked : goal.returns-clause-worked
returns-clause-worked g c =
    let v = view c.args.seat.now in
    let b = view c.spread-mine.result.0 in
    let split = c.split-mine.ensures in
    subst (λ (w : View). HasWorked v w) (sym c.meet.ensures.view)
    (subst (λ (x : View). HasWorked v (met x b)) (sym split.view) (worked_round v b (subst (λ (x : View). HasWorked x b) split.new c.spread-mine.ensures.view)))

pub returns-clause-shares : goal.returns-clause-shares
returns-clause-shares g c =
    let S = system_of c.args.round.now.table.now in
    let v = view c.args.seat.now in
    let b = view c.spread-mine.result.0 in
    let split = c.split-mine.ensures in
    let Shares : View → View → Told → Type 0 = λ x y told. HasShares S c.args.round.now.book.now c.args.round.now.done.now c.args.round.now.todo.now c.args.round.now.workers 0 c.args.round.now.workers x y told.turns.items in
    if_ok c.spread-mine.result.1 (Shares (half_given v) b) (Shares v (view c.meet.new.into))
    (λ told h. subst (λ (w : View). Shares v w told) (sym c.meet.ensures.view) (subst (λ (x : View). Shares v (met x b) told) (sym split.view)
    (shares_round S c.args.round.now.book.now c.args.round.now.done.now c.args.round.now.todo.now c.args.round.now.workers 0 c.args.round.now.workers v b told.turns.items (c.spread-mine.ensures.view.system ∙ ap (λ (u : View). u.system) split.new) h)))
    (subst (λ (x : View). IfOk c.spread-mine.result.1 (Shares x b)) split.new c.spread-mine.ensures.shares)
