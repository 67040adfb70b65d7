use Rattle.std.proofs.Common.{◌≡◌, ◌≢◌, ◌+◌, ◌*◌, ◌<◌, ◌^◌, ℕ, length, get_or, sym, ap, ◌∙◌, subst, arith}
use Rattle.sol_model.specs.Systems.{width_of}
use Rattle.sol_model.specs.Words.{Within}
use Rattle.set_rows.specs.declared.view.View.{View}
use Rattle.set_rows.specs.Views.{IsBelowWord, OnlyLooked, looked, words_of}
use Rattle.set_rows.specs.Calls.{system_of, view}
use Rattle.round_pieces.specs.delta_prop.Deltas.{IsSound, new_bits}
use Rattle.round_pieces.proofs.delta_prop.Carries.{row_place}
use Rattle.round_pieces.proofs.delta_prop.Readings.{Searching, searching_next, next_more, next_sound, next_others, found_more}
use Rattle.round_pieces.proofs.delta_prop.read.has_more.Goals as goal

pub loop-k-preserved : goal.loop-k-preserved
loop-k-preserved c =
    let S = system_of c.args.table.now in
    let W : ℕ = width_of S in
    let row : ℕ = c.args.row in
    let k : ℕ = c.loop-k.k in
    let done = c.args.done.now in
    let found : ℕ = c.look.result in
    let v = view c.args.seat.now in
    let u = view c.loop-k.seat in
    let w = view c.look.new.seat in
    let s = c.loop-k.invariant.searching in
    let wide : length done ≡ W = c.requires.sized in
    let sized : length v.seen ≡ S.rows * W = c.args.seat.now.sized ∙ ap words_of c.requires.own.1 in
    let lt : k < W = (let n = c.loop-k-test.true in omega arith) in
    let there : row * W + k < length v.seen = (let p = row_place S.rows W row k c.requires.row lt in omega arith) in
    let seen : Within (get_or u.seen (row * W + k) 0) found = subst (λ (n : ℕ). Within (get_or u.seen (row * n + k) 0) found) wide c.look.ensures.seen in
    let below : IsBelowWord u.system (row * W + k) found = subst (λ (n : ℕ). IsBelowWord u.system (row * n + k) found) wide c.look.ensures.below in
    let is : w ≡ looked u (row * W + k) found = subst (λ (n : ℕ). w ≡ looked u (row * n + k) found) wide c.look.ensures.view in
    let small : found < 2 ^ 64 = omega arith in
    let held : get_or done k 0 < 2 ^ 64 = omega (arith, c.type_inv.done k) in
    record {
      own = c.look.ensures.own;
      searching = subst (λ (y : View). Searching W row (k + 1) done v y) (sym is) (searching_next W row k found done v u s lt there seen below small held c.if-new-ne0.false);
    }

pub returns-then-new-ne0-clause-view : goal.returns-then-new-ne0-clause-view
returns-then-new-ne0-clause-view c =
    let S = system_of c.args.table.now in
    let W : ℕ = width_of S in
    let row : ℕ = c.args.row in
    let k : ℕ = c.loop-k.k in
    let done = c.args.done.now in
    let found : ℕ = c.look.result in
    let v = view c.args.seat.now in
    let u = view c.loop-k.seat in
    let w = view c.look.new.seat in
    let s = c.loop-k.invariant.searching in
    let wide : length done ≡ W = c.requires.sized in
    let sized : length v.seen ≡ S.rows * W = c.args.seat.now.sized ∙ ap words_of c.requires.own.1 in
    let lt : k < W = (let n = c.loop-k-test.true in omega arith) in
    let there : row * W + k < length v.seen = (let p = row_place S.rows W row k c.requires.row lt in omega arith) in
    let seen : Within (get_or u.seen (row * W + k) 0) found = subst (λ (n : ℕ). Within (get_or u.seen (row * n + k) 0) found) wide c.look.ensures.seen in
    let below : IsBelowWord u.system (row * W + k) found = subst (λ (n : ℕ). IsBelowWord u.system (row * n + k) found) wide c.look.ensures.below in
    let is : w ≡ looked u (row * W + k) found = subst (λ (n : ℕ). w ≡ looked u (row * n + k) found) wide c.look.ensures.view in
    subst (λ (y : View). OnlyLooked v y) (sym is) (next_more W row k found done v u s lt there seen below)

pub returns-then-new-ne0-clause-sound : goal.returns-then-new-ne0-clause-sound
returns-then-new-ne0-clause-sound c =
    let S = system_of c.args.table.now in
    let W : ℕ = width_of S in
    let row : ℕ = c.args.row in
    let k : ℕ = c.loop-k.k in
    let done = c.args.done.now in
    let found : ℕ = c.look.result in
    let v = view c.args.seat.now in
    let u = view c.loop-k.seat in
    let w = view c.look.new.seat in
    let s = c.loop-k.invariant.searching in
    let wide : length done ≡ W = c.requires.sized in
    let sized : length v.seen ≡ S.rows * W = c.args.seat.now.sized ∙ ap words_of c.requires.own.1 in
    let lt : k < W = (let n = c.loop-k-test.true in omega arith) in
    let there : row * W + k < length v.seen = (let p = row_place S.rows W row k c.requires.row lt in omega arith) in
    let seen : Within (get_or u.seen (row * W + k) 0) found = subst (λ (n : ℕ). Within (get_or u.seen (row * n + k) 0) found) wide c.look.ensures.seen in
    let below : IsBelowWord u.system (row * W + k) found = subst (λ (n : ℕ). IsBelowWord u.system (row * n + k) found) wide c.look.ensures.below in
    let is : w ≡ looked u (row * W + k) found = subst (λ (n : ℕ). w ≡ looked u (row * n + k) found) wide c.look.ensures.view in
    subst (λ (y : View). IsSound v → IsSound y) (sym is) (next_sound W row k found done v u s lt there seen below)

pub returns-then-new-ne0-clause-others : goal.returns-then-new-ne0-clause-others
returns-then-new-ne0-clause-others c =
    let S = system_of c.args.table.now in
    let W : ℕ = width_of S in
    let row : ℕ = c.args.row in
    let k : ℕ = c.loop-k.k in
    let done = c.args.done.now in
    let found : ℕ = c.look.result in
    let v = view c.args.seat.now in
    let u = view c.loop-k.seat in
    let w = view c.look.new.seat in
    let s = c.loop-k.invariant.searching in
    let wide : length done ≡ W = c.requires.sized in
    let sized : length v.seen ≡ S.rows * W = c.args.seat.now.sized ∙ ap words_of c.requires.own.1 in
    let lt : k < W = (let n = c.loop-k-test.true in omega arith) in
    let there : row * W + k < length v.seen = (let p = row_place S.rows W row k c.requires.row lt in omega arith) in
    let seen : Within (get_or u.seen (row * W + k) 0) found = subst (λ (n : ℕ). Within (get_or u.seen (row * n + k) 0) found) wide c.look.ensures.seen in
    let below : IsBelowWord u.system (row * W + k) found = subst (λ (n : ℕ). IsBelowWord u.system (row * n + k) found) wide c.look.ensures.below in
    let is : w ≡ looked u (row * W + k) found = subst (λ (n : ℕ). w ≡ looked u (row * n + k) found) wide c.look.ensures.view in
    subst (λ (y : View). (other j : ℕ) → other ≢ row → j < W → get_or y.seen (other * W + j) 0 ≡ get_or v.seen (other * W + j) 0) (sym is) (next_others W row k found done v u s lt there seen below)

pub returns-then-new-ne0-clause-some : goal.returns-then-new-ne0-clause-some
returns-then-new-ne0-clause-some c answered =
    let S = system_of c.args.table.now in
    let W : ℕ = width_of S in
    let row : ℕ = c.args.row in
    let k : ℕ = c.loop-k.k in
    let done = c.args.done.now in
    let found : ℕ = c.look.result in
    let v = view c.args.seat.now in
    let u = view c.loop-k.seat in
    let w = view c.look.new.seat in
    let s = c.loop-k.invariant.searching in
    let wide : length done ≡ W = c.requires.sized in
    let sized : length v.seen ≡ S.rows * W = c.args.seat.now.sized ∙ ap words_of c.requires.own.1 in
    let lt : k < W = (let n = c.loop-k-test.true in omega arith) in
    let there : row * W + k < length v.seen = (let p = row_place S.rows W row k c.requires.row lt in omega arith) in
    let seen : Within (get_or u.seen (row * W + k) 0) found = subst (λ (n : ℕ). Within (get_or u.seen (row * n + k) 0) found) wide c.look.ensures.seen in
    let below : IsBelowWord u.system (row * W + k) found = subst (λ (n : ℕ). IsBelowWord u.system (row * n + k) found) wide c.look.ensures.below in
    let is : w ≡ looked u (row * W + k) found = subst (λ (n : ℕ). w ≡ looked u (row * n + k) found) wide c.look.ensures.view in
    subst (λ (y : View). (j : ℕ) × (j < W) × (new_bits (get_or done j 0) (get_or y.seen (row * W + j) 0) ≢ 0)) (sym is) (found_more W row k found done v u s lt there seen below c.if-new-ne0.true)
