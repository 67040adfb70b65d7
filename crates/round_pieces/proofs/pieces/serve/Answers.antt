use Rattle.std.proofs.Common.{◌≡◌, ℕ, ◌+◌, ◌*◌, ◌<◌, ◌^◌, List, [], ◌∷◌, ◌++◌, length, get_or, map, slice_get, Some, sym, ap, ◌∙◌, subst, arith, add-mul, length-append}
use Rattle.std.proofs.lemmas.Option.{slice_get-get_or}
use Rattle.sol_model.specs.declared.system.System.{System}
use Rattle.sol_model.specs.declared.rows.Rows.{Rows}
use Rattle.sol_model.specs.Families.{Has, shown, members}
use Rattle.sol_model.specs.Systems.{width_of}
use Rattle.set_rows.specs.declared.view.View.{View}
use Rattle.set_rows.specs.Views.{known}
use Rattle.set_rows.specs.Calls.{system_of, view}
use Rattle.set_rows.proofs.Adding.{added_twice}
use Rattle.round_pieces.specs.declared.delta_prop.turn.Turn.{Turn}
use Rattle.round_pieces.specs.delta_prop.Deltas.{IsSeenOf}
use Rattle.round_pieces.specs.delta_prop.Turns.{IsTurn}
use Rattle.new_members.specs.News.{words_at}
use Rattle.round_pieces.specs.Turns.{AreTurns, row_of}
use Rattle.round_pieces.proofs.Parts.{ready_more}
use Rattle.round_pieces.proofs.Serving.{seen_at, turns_push, share_push, share_done}
use Rattle.round_pieces.proofs.pieces.serve.Goals as goal

-- what is done of a row was seen of a row that has it
done_seen : (S : System) (u : View) (done : Rows) (row to : ℕ) (words : List ℕ) → u.system ≡ S → done.width ≡ width_of S → ((k : ℕ) → get_or words k 0 < 2 ^ 64)
    → ((k : ℕ) → k < done.width → get_or words k 0 ≡ get_or done.words (row * done.width + k) 0) → ((location : ℕ) → Has (members done) row location → Has (known u) to location) → IsSeenOf (width_of S) u.seen to words
done_seen S u done row to words e wide fits same seen =
    seen_at S u row to words done.words e fits (λ k lt. same k (subst (λ (n : ℕ). k < n) (sym wide) lt) ∙ ap (λ (n : ℕ). get_or done.words (row * n + k) 0) wide)
    (λ location h. seen location (subst (λ (n : ℕ). Has (shown n done.words) row location) (sym wide) h))

pub propagate-requires-clause-book : goal.propagate-requires-clause-book
propagate-requires-clause-book g c =
    (ready_more (system_of c.args.round.now.table.now) (view c.args.seat.now) (view c.loop-piece.seat) c.args.round.now.book.now c.args.round.now.done.now c.loop-piece.invariant.more c.requires.ready).demanded

pub propagate-requires-clause-done : goal.propagate-requires-clause-done
propagate-requires-clause-done g c =
    let S = system_of c.args.round.now.table.now in
    let row : ℕ = get_or c.args.round.now.todo.now c.loop-piece.piece 0 in
    let r = ready_more S (view c.args.seat.now) (view c.loop-piece.seat) c.args.round.now.book.now c.args.round.now.done.now c.loop-piece.invariant.more c.requires.ready in
    done_seen S (view c.loop-piece.seat) c.args.round.now.done.now row row c.row_words.result.now c.loop-piece.invariant.own.1 c.requires.ready.fits.width c.row_words.ensures.small c.row_words.ensures.words (r.own row)

pub propagate-requires-clause-targets : goal.propagate-requires-clause-targets
propagate-requires-clause-targets g c to edge =
    let S = system_of c.args.round.now.table.now in
    let row : ℕ = get_or c.args.round.now.todo.now c.loop-piece.piece 0 in
    let r = ready_more S (view c.args.seat.now) (view c.loop-piece.seat) c.args.round.now.book.now c.args.round.now.done.now c.loop-piece.invariant.more c.requires.ready in
    done_seen S (view c.loop-piece.seat) c.args.round.now.done.now row to c.row_words.result.now c.loop-piece.invariant.own.1 c.requires.ready.fits.width c.row_words.ensures.small c.row_words.ensures.words (λ location h. r.carried row to location edge h)

pub returns-in_err-propagate-clause-sound : goal.returns-in_err-propagate-clause-sound
returns-in_err-propagate-clause-sound g c s = c.in_err-propagate.ensures.sound (c.loop-piece.invariant.sound s)

pub loop-piece-preserved : goal.loop-piece-preserved
loop-piece-preserved g c =
    let S = system_of c.args.round.now.table.now in
    let W : ℕ = width_of S in
    let book = c.args.round.now.book.now in
    let todo = c.args.round.now.todo.now in
    let piece : ℕ = c.loop-piece.piece in
    let row : ℕ = get_or todo piece 0 in
    let v = view c.args.seat.now in
    let u = view c.loop-piece.seat in
    let w = view c.propagate.new.seat in
    let inv = c.loop-piece.invariant in
    let ts = c.loop-piece.turns.items in
    let turn : Turn = c.in_ok-propagate.field-0 in
    let ens = c.in_ok-propagate.ensures in
    let items : c.push_reserved.new.self.items ≡ ts ++ turn ∷ [] = c.push_reserved.ensures.items ∙ ap (λ (xs : List Turn). xs ++ turn ∷ []) c.in_ok-reserve.ensures.items in
    let is : turn.row ≡ row = ens.turn.row_is in
    let at_row : IsTurn W book row (words_at c.args.round.now.done.now row) u w turn = subst (λ (xs : List ℕ). IsTurn W book row xs u w turn) c.row_words.ensures.value ens.turn in
    let its : IsTurn W book turn.row (words_at c.args.round.now.done.now turn.row) u w turn = subst (λ (r : ℕ). IsTurn W book r (words_at c.args.round.now.done.now r) u w turn) (sym is) at_row in
    let at : slice_get todo piece ≡ Some turn.row = slice_get-get_or todo piece 0 c.loop-piece-test.true ∙ ap Some (sym is) in
    record {
      own = ens.own;
      more = added_twice v u w inv.more ens.view;
      sound = λ s. ens.sound (inv.sound s);
      few = (let f = inv.few in let k = c.requires.workers.0 in omega arith);
      turns = subst (λ (xs : List Turn). AreTurns W book (words_at c.args.round.now.done.now) v xs w) (sym items) (turns_push S book (words_at c.args.round.now.done.now) ts v u w turn inv.turns its ens.view);
      piece = subst (λ (xs : List Turn). piece + c.args.round.now.workers ≡ c.args.worker + length xs * c.args.round.now.workers) (sym items)
          (let e = inv.piece in let n = length-append ts (turn ∷ []) in ap (λ (x : ℕ). x + c.args.round.now.workers) e ∙ (let s = add-mul (length ts) 1 c.args.round.now.workers in let z : c.args.worker + length ts * c.args.round.now.workers + c.args.round.now.workers ≡ c.args.worker + (length ts + 1) * c.args.round.now.workers = omega arith in z) ∙ ap (λ (x : ℕ). c.args.worker + x * c.args.round.now.workers) (sym n));
      rows = subst (λ (xs : List Turn). (i : ℕ) → i < length xs → slice_get (map row_of xs) i ≡ slice_get todo (c.args.worker + i * c.args.round.now.workers)) (sym items)
          (share_push todo ts turn c.args.worker c.args.round.now.workers piece inv.piece at inv.rows);
    }

pub returns-clause-rows : goal.returns-clause-rows
returns-clause-rows g c = share_done c.args.round.now.todo.now c.loop-piece.turns.items c.args.worker c.args.round.now.workers c.loop-piece.piece c.loop-piece.invariant.piece c.loop-piece-test.false c.loop-piece.invariant.rows
