use Rattle.std.proofs.Common.{ℕ, ◌+◌, List, sym, subst, arith}
use Rattle.set_rows.specs.Calls.{system_of, view}
use Rattle.set_rows.proofs.Adding.{added_twice, nothing_added}
use Rattle.round_pieces.specs.declared.delta_prop.turn.Turn.{Turn}
use Rattle.round_pieces.specs.Turns.{HasShares}
use Rattle.round_pieces.proofs.Parts.{ready_more}
use Rattle.round_pieces.proofs.Sharing.{alone, no_shares, shares_after}
use Rattle.round_pieces.proofs.round.in_turn.Goals as goal

pub loop-worker-init : goal.loop-worker-init
loop-worker-init g c =
    let S = system_of c.args.round.now.table.now in
    let v = view c.args.seat.now in record {
      own = c.requires.own;
      more = nothing_added v;
      sound = λ s. s;
      shares = subst (λ (ts : List Turn). HasShares S c.args.round.now.book.now c.args.round.now.done.now c.args.round.now.todo.now c.args.round.now.workers c.args.first c.args.first v v ts) (sym c.new-turns.ensures.items)
          (no_shares S c.args.round.now.book.now c.args.round.now.done.now c.args.round.now.todo.now c.args.round.now.workers c.args.first v);
    }

pub serve-requires-clause-ready : goal.serve-requires-clause-ready
serve-requires-clause-ready g c =
    ready_more (system_of c.args.round.now.table.now) (view c.args.seat.now) (view c.loop-worker.seat) c.args.round.now.book.now c.args.round.now.done.now c.loop-worker.invariant.more c.requires.ready

pub returns-in_err-share-clause-sound : goal.returns-in_err-share-clause-sound
returns-in_err-share-clause-sound g c s = c.serve.ensures.sound (c.loop-worker.invariant.sound s)

pub returns-in_err-append-clause-sound : goal.returns-in_err-append-clause-sound
returns-in_err-append-clause-sound g c s = c.serve.ensures.sound (c.loop-worker.invariant.sound s)

pub loop-worker-preserved : goal.loop-worker-preserved
loop-worker-preserved g c =
    let S = system_of c.args.round.now.table.now in
    let book = c.args.round.now.book.now in
    let done = c.args.round.now.done.now in
    let todo = c.args.round.now.todo.now in
    let v = view c.args.seat.now in
    let u = view c.loop-worker.seat in
    let w = view c.serve.new.seat in
    let inv = c.loop-worker.invariant in
    let ts = c.loop-worker.turns.items in
    let us = c.in_ok-share.share.items in
    let ens = c.in_ok-share.ensures in
    let worker : ℕ = c.loop-worker.worker in
    let alone_is = alone S book done todo c.args.round.now.workers worker (worker + 1) u w us inv.own.1 (omega arith) c.requires.todo ens.turns ens.rows in
    record {
      own = ens.own;
      more = added_twice v u w inv.more ens.view;
      sound = λ s. ens.sound (inv.sound s);
      shares = shares_after S book done todo c.args.round.now.workers v u w inv.more ens.view c.args.first worker (worker + 1) ts us c.append.new.self.items c.in_ok-append.ensures.items inv.shares alone_is;
    }
