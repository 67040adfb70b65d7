use Rattle.std.proofs.Common.{◌≡◌, ℕ, ◌+◌, ◌*◌, ◌/◌, ◌%◌, ◌<◌, List, length, get_or, Some, slice_get, sym, subst, arith}
use Rattle.std.proofs.lemmas.Option.{slice_get-get_or}
use Rattle.round_pieces.specs.Rounds.{AreRowsApart}
use Rattle.round_pieces.proofs.Blocks.{OfPieces, pieces_all, pieces_next, pieces_once, place_below, place_of}
use Rattle.round_pieces.proofs.dealing.dealt.Goals as goal

pub bounds-todo-worker : goal.bounds-todo-worker
bounds-todo-worker c =
    let i : ℕ = c.loop-i.i in
    let lt : i < length c.args.todo.now = (let t = c.loop-i-test.true in omega arith) in
    let m = c.min.ensures in
    let below = place_below (length c.args.todo.now) c.args.workers i lt c.requires.workers.0 in omega arith

pub loop-i-preserved : goal.loop-i-preserved
loop-i-preserved c =
    let todo = c.args.todo.now in
    let mid = c.loop-i.out.items in
    let w : ℕ = c.args.workers in
    let i : ℕ = c.loop-i.i in
    let inv = c.loop-i.invariant in
    let some = c.requires.workers.0 in
    let lt : i < length todo = (let t = c.loop-i-test.true in omega arith) in
    let at : ℕ = i % w * (length todo / w) + c.min.result + i / w in
    let same : at ≡ place_of (length todo) w i = (let m = c.min.ensures in omega arith) in
    let below : at < length todo = (let l = place_below (length todo) w i lt some in omega arith) in
    let x : ℕ = get_or todo at 0 in
    let here : slice_get todo (place_of (length todo) w i) ≡ Some x = subst (λ (k : ℕ). slice_get todo k ≡ Some x) same (slice_get-get_or todo at 0 below) in
    let P : List ℕ → Type 0 = λ xs. record {
      rows : OfPieces xs todo w (i + 1);
      once : AreRowsApart todo → AreRowsApart xs;
    } in
    subst P (sym c.in_ok-push.ensures.items) record {
      rows = pieces_next mid todo w i x here inv.rows;
      once = λ all. pieces_once mid todo w i x some lt here inv.rows all (inv.once all);
    }

pub returns-clause-rows : goal.returns-clause-rows
returns-clause-rows c =
    let n = c.loop-i-test.false in
    let m = c.loop-i.auto.i-end in
    pieces_all c.loop-i.out.items c.args.todo.now c.args.workers c.requires.workers.0 (subst (OfPieces c.loop-i.out.items c.args.todo.now c.args.workers) (omega arith) c.loop-i.invariant.rows)
