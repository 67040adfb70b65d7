use Rattle.std.proofs.Common.{◌≡◌, ℕ, ◌+◌, ◌≤◌, List, [], ◌∷◌, length, Contains, sym, ap, ◌∙◌, subst, arith, eqb-true, refl}
use Rattle.sol_model.specs.declared.system.System.{System}
use Rattle.sol_model.specs.Solutions.{IsClosed, IsLeast}
use Rattle.sol_model.specs.Systems.{Fits}
use Rattle.set_rows.specs.declared.view.View.{View}
use Rattle.set_rows.specs.Views.{known, shutting, reading, OnlyLooked}
use Rattle.set_rows.specs.Calls.{view}
use Rattle.round_pieces.specs.delta_prop.Deltas.{IsSound}
use Rattle.round_pieces.proofs.delta_prop.Going.{looked_adds}
use Rattle.set_rows.proofs.Adding.{nothing_added}
use Rattle.round_pieces.specs.Rounds.{AreRowsApart, HasClosed, HasWorked}
use Rattle.round_pieces.proofs.Parts.{worked_alone, worked_again, worked_and_closed, on_err}
use Rattle.round_pieces.proofs.Ending.{closed_when_done, least_when_done, closing, has_closed}
use Rattle.round_pieces.specs.Work.{IsWork}
use Rattle.round_settling.proofs.Rests.{settled_still}
use Rattle.round_settling.proofs.Working.{work_done}
use Rattle.work_rounds.proofs.solving.rounds.Goals as goal

empty : (xs : List ℕ) → length xs ≡ 0 → xs ≡ []
empty [] e = refl
empty (x ∷ xs) e = absurd (omega arith)

-- a seat that has worked, and then only looked at rows
worked_looking : (v u w : View) → HasWorked v u → OnlyLooked u w → IsSound w → HasWorked v w
worked_looking v u w h more sound = worked_again v u w h (worked_alone u w (looked_adds u w more) (λ s. sound))

pub loop-round-init : goal.loop-round-init
loop-round-init g c =
    let v = view c.args.seat.now in record {
      own = c.requires.own;
      worked = worked_alone v v (nothing_added v) (λ s. s);
      settled = c.requires.settled;
      booked = c.requires.booked;
      paid = (omega arith);
      extents = c.requires.extents;
    }

pub rows_to_do-requires-clause-fits : goal.rows_to_do-requires-clause-fits
rows_to_do-requires-clause-fits g c = subst (λ (T : System). Fits T c.loop-round.progress.done) (sym c.requires.system) c.loop-round.invariant.settled.ready.fits

pub rows_to_do-requires-clause-rows : goal.rows_to_do-requires-clause-rows
rows_to_do-requires-clause-rows g c = ap (λ (T : System). T.rows) (sym c.requires.system)

pub rows_to_do-requires-clause-sound : goal.rows_to_do-requires-clause-sound
rows_to_do-requires-clause-sound g c = c.loop-round.invariant.settled.sound

pub shut-requires-clause-closed : goal.shut-requires-clause-closed
shut-requires-clause-closed g c =
    let S = c.args.ground.now.system.now in
    let u = view c.loop-round.seat in
    let w = view c.rows_to_do.new.seat in
    let book = c.loop-round.progress.book in
    let done = c.loop-round.progress.done in
    let ens = c.in_ok-todo.ensures in
    let todo = c.in_ok-todo.todo in
    let none : todo.items ≡ [] = empty todo.items (let z : todo.len ≡ 0 = eqb-true todo.len 0 (sym c.is_empty.ensures ∙ c.if-is_empty.true) in let k = todo.ok in let n : length todo.items ≡ 0 = omega arith in n) in
    subst (λ (T : System). IsClosed T (known w)) (sym c.requires.system)
    (closed_when_done S w book done (settled_still S u w book done ens.view ens.sound c.loop-round.invariant.settled) (ens.done none))

pub returns-then-is_empty-clause-closed : goal.returns-then-is_empty-clause-closed
returns-then-is_empty-clause-closed g c =
    let v = view c.args.seat.now in
    let u = view c.loop-round.seat in
    let w = view c.rows_to_do.new.seat in
    let x = view c.shut.new.seat in
    let y = view c.is_shut.new.seat in
    let ens = c.in_ok-todo.ensures in
    let end : y ≡ reading (shutting w) 1 = closing w x y c.is_shut.result c.shut.ensures.view c.is_shut.ensures.view (c.is_shut.ensures.known (ap (λ (z : View). z.knows) c.shut.ensures.view)) in
    worked_and_closed v w y (worked_looking v u w c.loop-round.invariant.worked ens.view ens.sound) (subst (HasClosed w) (sym end) (has_closed w))

pub returns-then-is_empty-clause-least : goal.returns-then-is_empty-clause-least
returns-then-is_empty-clause-least g c =
    let S = c.args.ground.now.system.now in
    let u = view c.loop-round.seat in
    let w = view c.rows_to_do.new.seat in
    let x = view c.shut.new.seat in
    let y = view c.is_shut.new.seat in
    let book = c.loop-round.progress.book in
    let done = c.loop-round.progress.done in
    let ens = c.in_ok-todo.ensures in
    let todo = c.in_ok-todo.todo in
    let end : y ≡ reading (shutting w) 1 = closing w x y c.is_shut.result c.shut.ensures.view c.is_shut.ensures.view (c.is_shut.ensures.known (ap (λ (z : View). z.knows) c.shut.ensures.view)) in
    let none : todo.items ≡ [] = empty todo.items (let z : todo.len ≡ 0 = eqb-true todo.len 0 (sym c.is_empty.ensures ∙ c.if-is_empty.true) in let k = todo.ok in let n : length todo.items ≡ 0 = omega arith in n) in
    subst (λ (z : View). IsLeast S (known z)) (sym end)
    (least_when_done S w book done (ens.own.1 ∙ c.requires.system) (settled_still S u w book done ens.view ens.sound c.loop-round.invariant.settled) (ens.done none))

pub returns-then-is_empty-clause-bound : goal.returns-then-is_empty-clause-bound
returns-then-is_empty-clause-bound g c start before =
    let S = c.args.ground.now.system.now in
    let v = view c.args.seat.now in
    let u = view c.loop-round.seat in
    let w = view c.rows_to_do.new.seat in
    let x = view c.shut.new.seat in
    let y = view c.is_shut.new.seat in
    let book = c.loop-round.progress.book in
    let done = c.loop-round.progress.done in
    let ens = c.in_ok-todo.ensures in
    let todo = c.in_ok-todo.todo in
    let end : y ≡ reading (shutting w) 1 = closing w x y c.is_shut.result c.shut.ensures.view c.is_shut.ensures.view (c.is_shut.ensures.known (ap (λ (z : View). z.knows) c.shut.ensures.view)) in
    let none : todo.items ≡ [] = empty todo.items (let z : todo.len ≡ 0 = eqb-true todo.len 0 (sym c.is_empty.ensures ∙ c.if-is_empty.true) in let k = todo.ok in let n : length todo.items ≡ 0 = omega arith in n) in
    let work = work_done S w book c.loop-round.progress.facts done start (ens.own.1 ∙ c.requires.system) c.requires.valid
    (settled_still S u w book done ens.view ens.sound c.loop-round.invariant.settled) (ens.done none) c.loop-round.invariant.booked (let p = c.loop-round.invariant.paid in let o = ens.view.ors in let b = before in omega arith) in
    subst (λ (z : View). (n : ℕ) × IsWork S (known z) n × (z.ors ≤ start + n + 1)) (sym end) (work.0, work.1, (let l = work.2 in omega arith))

pub one_round-requires-clause-settled : goal.one_round-requires-clause-settled
one_round-requires-clause-settled g c κs within =
    settled_still c.args.ground.now.system.now (view c.loop-round.seat) (view c.rows_to_do.new.seat) c.loop-round.progress.book c.loop-round.progress.done c.in_ok-todo.ensures.view c.in_ok-todo.ensures.sound c.loop-round.invariant.settled

pub one_round-requires-clause-rows : goal.one_round-requires-clause-rows
one_round-requires-clause-rows g c κs within row h =
    c.in_ok-order.ensures.rows row (subst (λ (xs : List ℕ). Contains xs row) c.as_slice-in-loop-round-2.ensures.value h)

pub one_round-requires-clause-once : goal.one_round-requires-clause-once
one_round-requires-clause-once g c κs within = subst AreRowsApart (sym c.as_slice-in-loop-round-2.ensures.value) c.in_ok-order.ensures.once

pub returns-in_err-one_round-clause-err : goal.returns-in_err-one_round-clause-err
returns-in_err-one_round-clause-err g c =
    let v = view c.args.seat.now in
    let w = view c.rows_to_do.new.seat in
    let y = view c.one_round.new.seat in
    on_err c.from_residual-in_err-one_round.result (HasWorked v y)
    (worked_again v w y (worked_looking v (view c.loop-round.seat) w c.loop-round.invariant.worked c.in_ok-todo.ensures.view c.in_ok-todo.ensures.sound) c.in_err-one_round.ensures.worked)

pub loop-round-preserved : goal.loop-round-preserved
loop-round-preserved g c =
    let v = view c.args.seat.now in
    let w = view c.rows_to_do.new.seat in
    record {
      own = c.one_round.ensures.own;
      worked = worked_again v w (view c.one_round.new.seat) (worked_looking v (view c.loop-round.seat) w c.loop-round.invariant.worked c.in_ok-todo.ensures.view c.in_ok-todo.ensures.sound) c.one_round.ensures.worked;
      settled = c.in_ok-one_round.ensures.settled;
      booked = c.in_ok-one_round.ensures.booked;
      extents = c.in_ok-one_round.ensures.extents;
      paid = (let a = c.loop-round.invariant.paid in let b = c.in_ok-one_round.ensures.paid in let o = c.in_ok-todo.ensures.view.ors in omega arith);
    }

pub returns-in_err-todo-clause-err : goal.returns-in_err-todo-clause-err
returns-in_err-todo-clause-err g c =
    let v = view c.args.seat.now in
    let w = view c.rows_to_do.new.seat in
    on_err c.from_residual.result (HasWorked v w) (worked_looking v (view c.loop-round.seat) w c.loop-round.invariant.worked c.in_err-todo.ensures.view c.in_err-todo.ensures.sound)

pub returns-in_err-order-clause-err : goal.returns-in_err-order-clause-err
returns-in_err-order-clause-err g c =
    let v = view c.args.seat.now in
    let w = view c.rows_to_do.new.seat in
    on_err c.from_residual-in_err-order.result (HasWorked v w) (worked_looking v (view c.loop-round.seat) w c.loop-round.invariant.worked c.in_ok-todo.ensures.view c.in_ok-todo.ensures.sound)
