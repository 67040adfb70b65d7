use Rattle.std.proofs.Common.{◌+◌, ◌-◌, ◌/◌, ℕ, IfOk, sym, ap, ◌∙◌, subst}
use Rattle.set_rows.specs.declared.view.View.{View}
use Rattle.set_rows.specs.Calls.{view, system_of}
use Rattle.round_pieces.specs.declared.joining.Told.{Told}
use Rattle.round_pieces.specs.Rounds.{HasWorked}
use Rattle.round_pieces.specs.Turns.{HasShares}
use Rattle.round_pieces.proofs.Parts.{worked_together}
use Rattle.round_pieces.proofs.Ending.{joined_shares}
use Rattle.round_pieces.proofs.round.«+fn-spread-join+arg2+fn-spread-join+arg3+spread».Goals as goal

pub returns-clause-view : goal.returns-clause-view
returns-clause-view g t c =
    let v = view c.args.seat in
    let a = view c.join-seat.result.0.0 in
    let b = view c.join-seat.result.1.0 in
    let both = c.join-seat.ensures in
    let split = c.split-other.ensures in
    subst (λ (w : View). HasWorked v w) (sym c.meet.ensures.view)
    (worked_together v a b (subst (λ (u : View). HasWorked u a) split.view both.first.1.0) (subst (λ (u : View). HasWorked u b) split.new both.second.1.0))

pub returns-clause-shares : goal.returns-clause-shares
returns-clause-shares g t c =
    let S = system_of c.args.round.now.table.now in
    let v = view c.args.seat in
    let a = view c.join-seat.result.0.0 in
    let b = view c.join-seat.result.1.0 in
    let both = c.join-seat.ensures in
    let split = c.split-other.ensures in
    let left = c.join-seat.result.0.1 in
    let right = c.join-seat.result.1.1 in
    let middle : ℕ = c.args.first + (c.args.last - c.args.first) / 2 in
    let Left : View → Told → Type 0 = λ u ts. HasShares S c.args.round.now.book.now c.args.round.now.done.now c.args.round.now.todo.now c.args.round.now.workers c.args.first middle u a ts.turns.items in
    let Right : View → Told → Type 0 = λ u ts. HasShares S c.args.round.now.book.now c.args.round.now.done.now c.args.round.now.todo.now c.args.round.now.workers middle c.args.last u b ts.turns.items in
    let Ended : View → Told → Type 0 = λ w ts. HasShares S c.args.round.now.book.now c.args.round.now.done.now c.args.round.now.todo.now c.args.round.now.workers c.args.first c.args.last v w ts.turns.items in
    subst (λ (w : View). IfOk c.together.result (Ended w)) (sym c.meet.ensures.view)
    (joined_shares S c.args.round.now.book.now v c.args.round.now.done.now c.args.round.now.todo.now c.args.round.now.workers c.args.first middle c.args.last a b left right c.together.result
    (both.second.1.0.system ∙ ap (λ (u : View). u.system) split.new ∙ sym (both.first.1.0.system ∙ ap (λ (u : View). u.system) split.view))
    (subst (λ (u : View). IfOk left (Left u)) split.view both.first.1.1)
    (subst (λ (u : View). IfOk right (Right u)) split.new both.second.1.1)
    c.together.ensures)
