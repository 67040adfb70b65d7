use Rattle.std.proofs.Common.{◌≡◌, ◌+◌, ◌*◌, ◌<◌, ◌≤◌, ◌^◌, ℕ, List, length, get_or, set, replicate, sym, ap, ◌∙◌, subst, subst₂, inl, inr, arith}
use Rattle.std.proofs.lemmas.Bool.{cases_lt}
use Rattle.sol_model.specs.Systems.{width_of}
use Rattle.sol_model.specs.Words.{Within}
use Rattle.set_rows.specs.declared.view.View.{View}
use Rattle.set_rows.specs.Views.{IsBelowWord, looked, words_of}
use Rattle.set_rows.specs.Calls.{system_of, view, IsOf}
use Rattle.round_pieces.proofs.delta_prop.Carries.{row_place}
use Rattle.round_pieces.proofs.delta_prop.Readings.{Reading, reading_start, reading_new, reading_old}
use Rattle.round_pieces.proofs.delta_prop.read.read_row.Goals as goal
use Rattle.round_pieces.proofs.delta_prop.read.read_row.Goals.{then-word-done-ne0, else-word-done-ne0}

pub loop-k-init : goal.loop-k-init
loop-k-init c = record {
  own = c.requires.own;
  reading = subst (λ (n : ℕ). Reading (width_of (system_of c.args.table.now)) c.args.row c.args.from c.args.from n 0 c.args.done.now c.in_ok-words.words.items (view c.args.seat.now) (view c.args.seat.now)) (sym c.requires.sized)
      (reading_start (width_of (system_of c.args.table.now)) c.args.row c.args.from c.args.done.now c.in_ok-words.words.items (view c.args.seat.now)
      (c.in_ok-words.ensures.items_if_clones_equal (λ y e. e) ∙ ap (λ (n : ℕ). replicate {A = ℕ} n 0) c.requires.sized));
}

pub loop-k-preserved : goal.loop-k-preserved
loop-k-preserved c =
    let t = c.args.table.now in
    let S = system_of t in
    let W : ℕ = width_of S in
    let row : ℕ = c.args.row in
    let from : ℕ = c.args.from in
    let k : ℕ = c.loop-k.k in
    let done = c.args.done.now in
    let words = c.loop-k.words.items in
    let found : ℕ = c.look-word.result in
    let v = view c.args.seat.now in
    let u = view c.loop-k.seat in
    let w = view c.look-word.new.seat in
    let inv = c.loop-k.invariant in
    let wide : length done ≡ W = c.requires.sized in
    let sized : length v.seen ≡ S.rows * W = c.args.seat.now.sized ∙ ap words_of c.requires.own.1 in
    let lt : k < W = (let n = c.loop-k-test.true in let e = c.earlier-k-end.ensures.least.1 in omega arith) in
    let there : row * W + k < length v.seen = (let p = row_place S.rows W row k c.requires.row lt in omega arith) in
    let seen : Within (get_or u.seen (row * W + k) 0) found = subst (λ (n : ℕ). Within (get_or u.seen (row * n + k) 0) found) wide c.look-word.ensures.seen in
    let below : IsBelowWord u.system (row * W + k) found = subst (λ (n : ℕ). IsBelowWord u.system (row * n + k) found) wide c.look-word.ensures.below in
    let is : w ≡ looked u (row * W + k) found = subst (λ (n : ℕ). w ≡ looked u (row * n + k) found) wide c.look-word.ensures.view in
    let P : ℕ → ℕ → Type 0 = λ first end. record { own : IsOf t c.look-word.new.seat; reading : Reading W row from (k + 1) first end done (set words k found) v w } in
    elim c.if-word-done-ne0.branch [
      | then-word-done-ne0 x ↦ subst₂ P (sym x.first-is) (sym x.end-is) record {
        own = c.look-word.ensures.own;
        reading = subst (Reading W row from (k + 1) x.earlier-first.result (k + 1) done (set words k found) v) (sym is)
            (reading_new W row from k c.loop-k.first c.loop-k.end found done words v u inv.reading lt there seen below x.earlier-first.result x.earlier-first.ensures.least.0 x.earlier-first.ensures.least.1);
      }
      | else-word-done-ne0 x ↦ subst₂ P (sym x.first-is) (sym x.end-is) record {
        own = c.look-word.ensures.own;
        reading = subst (Reading W row from (k + 1) c.loop-k.first c.loop-k.end done (set words k found) v) (sym is)
            (reading_old W row from k c.loop-k.first c.loop-k.end found done words v u inv.reading lt there seen below (omega arith) (omega (arith, c.type_inv.done k)) x.if-word-done-ne0.false);
      }
    ]
