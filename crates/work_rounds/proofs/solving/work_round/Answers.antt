use Rattle.std.proofs.Common.{◌≡◌, ℕ, ◌+◌, ◌≤◌, List, map, Contains, get_or, sym, subst, arith}
use Rattle.std.proofs.lemmas.List.Elements.{Contains-get_or}
use Rattle.sol_model.specs.declared.system.System.{System}
use Rattle.sol_model.specs.Systems.{IsRow, width_of}
use Rattle.set_rows.specs.Calls.{view}
use Rattle.round_pieces.specs.declared.delta_prop.turn.Turn.{Turn}
use Rattle.round_pieces.specs.Rounds.{HasServed, IsChange}
use Rattle.new_members.specs.News.{words_at}
use Rattle.new_members.proofs.Answering.{on_ok}
use Rattle.round_pieces.specs.Turns.{row_of, HasShares}
use Rattle.round_pieces.specs.Balance.{paid_for, spent}
use Rattle.round_pieces.proofs.Parts.{worked_alone, worked_again}
use Rattle.round_pieces.proofs.Sharing.{each_changed, rows_apart}
use Rattle.round_pieces.proofs.Sums.{IsApart, list_apart}
use Rattle.work_rounds.proofs.solving.work_round.Goals as goal

pub all_pieces-requires-clause-todo : goal.all_pieces-requires-clause-todo
all_pieces-requires-clause-todo g c κs within = λ k d lt. subst (λ (T : System). IsRow T (get_or c.args.todo.now k d)) (sym c.requires.system) (c.requires.rows (get_or c.args.todo.now k d) (Contains-get_or c.args.todo.now k d lt))

pub settle-requires-clause-worked : goal.settle-requires-clause-worked
settle-requires-clause-worked g c =
    let S = c.args.ground.now.system.now in
    let book = c.args.progress.now.book in
    let done = c.args.progress.now.done in
    let v = view c.args.seat.now in
    let w = view c.all_pieces.new.seat in
    let turns = c.in_ok-told.told.turns.items in
    let settled = c.as_slice-2.result.now in
    let same : settled ≡ turns = c.as_slice-2.ensures.value in
    let shares : HasShares S book done c.args.todo.now c.args.crew.now.workers 0 c.args.crew.now.workers v w turns =
    subst (λ (T : System). HasShares T book done c.args.todo.now c.args.crew.now.workers 0 c.args.crew.now.workers v w turns) c.requires.system c.in_ok-told.ensures.shares in (
      v,
      record {
        before = c.requires.settled;
        worked = c.in_ok-told.ensures.worked;
        served = subst (HasServed S book w) (sym same) shares.served;
        once = list_apart (map row_of settled) (subst (λ (ts : List Turn). IsApart (map row_of ts)) (sym same) (rows_apart S book done c.args.todo.now c.args.crew.now.workers v w turns c.requires.once shares));
        changes = subst (λ (ts : List Turn). (turn : Turn) → Contains ts turn → IsChange S done turn) (sym same)
            (each_changed S book done c.requires.settled.ready.fits c.args.todo.now c.args.crew.now.workers 0 c.args.crew.now.workers v w turns shares);
      },
    )

pub returns-clause-worked : goal.returns-clause-worked
returns-clause-worked g c =
    let v = view c.args.seat.now in
    let w = view c.all_pieces.new.seat in
    let y = view c.settle.new.seat in
    worked_again v w y c.in_ok-told.ensures.worked (worked_alone w y c.settle.ensures.view c.settle.ensures.sound)

pub returns-clause-paid : goal.returns-clause-paid
returns-clause-paid g c =
    let S = c.args.ground.now.system.now in
    let v = view c.args.seat.now in
    let w = view c.all_pieces.new.seat in
    let book = c.args.progress.now.book in
    let done = c.args.progress.now.done in
    let turns = c.in_ok-told.told.turns.items in
    let spending : w.ors ≤ v.ors + spent (width_of S) book (words_at done) turns =
    subst (λ (T : System). w.ors ≤ v.ors + spent (width_of T) book (words_at done) turns) c.requires.system c.in_ok-told.ensures.shares.ors in
    let Paid : List Turn → Type 0 = λ ts. (view c.settle.new.seat).ors + (spent (width_of S) book (words_at done) ts + paid_for S done book c.args.progress.now.facts) ≤ w.ors + paid_for S c.settle.new.progress.done c.settle.new.progress.book c.settle.new.progress.facts in
    on_ok c.settle.result (Paid c.as_slice-2.result.now) ((view c.settle.new.seat).ors + paid_for S done book c.args.progress.now.facts ≤ v.ors + paid_for S c.settle.new.progress.done c.settle.new.progress.book c.settle.new.progress.facts)
    (λ h. let p : Paid turns = subst Paid c.as_slice-2.ensures.value h in omega arith)
    c.settle.ensures.paid
