use Rattle.std.proofs.Common.{ℕ, List, length, replicate, Result, Ok, Err, OnErr, ap, ◌∙◌, arith}
use Rattle.std.proofs.lemmas.List.{length-replicate}
use Rattle.sol_model.specs.Systems.{width_of}
use Rattle.set_rows.specs.Calls.{view}
use Rattle.round_pieces.specs.Rounds.{HasClosed, HasWorked}
use Rattle.new_members.proofs.Answering.{on_ok}
use Rattle.round_pieces.proofs.Parts.{worked_alone, worked_again, worked_and_closed}
use Rattle.work_rounds.proofs.solving.run.Goals as goal

-- what holds after want of memory is handed on
err_more : {A E : Type 0} {P Q : Type 0} (r : Result A E) → (P → Q) → OnErr r P → OnErr r Q
err_more (Ok x) f p = p
err_more (Err e) f p = f p

pub begin-requires-clause-width : goal.begin-requires-clause-width
begin-requires-clause-width g c =
    ap (λ (xs : List ℕ). length xs) c.requires.nothing ∙ length-replicate (width_of c.args.ground.now.system.now) 0

pub rounds-requires-clause-settled : goal.rounds-requires-clause-settled
rounds-requires-clause-settled g c κs within =
    c.in_ok-begin.ensures.settled c.args.progress.now.done c.requires.fits c.requires.undone

pub rounds-requires-clause-booked : goal.rounds-requires-clause-booked
rounds-requires-clause-booked g c κs within = c.in_ok-begin.ensures.booked c.args.progress.now.done

pub rounds-requires-clause-extents : goal.rounds-requires-clause-extents
rounds-requires-clause-extents g c κs within = λ row location extent h. absurd (c.requires.undone row location h)

pub returns-clause-closed : goal.returns-clause-closed
returns-clause-closed g c =
    let v = view c.args.seat.now in
    let u = view c.begin.new.seat in
    let w = view c.rounds.new.seat in
    on_ok c.rounds.result (HasClosed u w) (HasClosed v w) (worked_and_closed v u w (worked_alone v u c.in_ok-begin.ensures.view c.in_ok-begin.ensures.sound)) c.rounds.ensures.closed

pub returns-clause-bound : goal.returns-clause-bound
returns-clause-bound g c =
    c.rounds.ensures.bound (view c.args.seat.now).ors (let p = c.in_ok-begin.ensures.paid in omega arith)

pub returns-clause-err : goal.returns-clause-err
returns-clause-err g c =
    let v = view c.args.seat.now in
    let u = view c.begin.new.seat in
    let w = view c.rounds.new.seat in
    err_more c.rounds.result (λ (h : HasWorked u w). worked_again v u w (worked_alone v u c.in_ok-begin.ensures.view c.in_ok-begin.ensures.sound) h) c.rounds.ensures.err
