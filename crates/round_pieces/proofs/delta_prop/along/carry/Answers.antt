use Rattle.std.proofs.Common.{◌≡◌, ◌+◌, ◌*◌, ◌<◌, ◌≤◌, ◌^◌, ℕ, List, [], ◌∷◌, ◌++◌, length, length-set, get_or, take, take_all, sym, ap, ◌∙◌, subst, arith}
use Rattle.std.proofs.lemmas.List.{take_more}
use Rattle.std.proofs.lemmas.List.Elements.{Contains-get_or}
use Rattle.sol_model.specs.declared.system.System.{System}
use Rattle.sol_model.specs.Systems.{width_of}
use Rattle.sol_model.specs.Words.{Within}
use Rattle.set_rows.specs.Calls.{system_of, view, IsOf}
use Rattle.set_rows.specs.Views.{OnlyAdded, looked, words_of}
use Rattle.set_rows.specs.declared.view.View.{View}
use Rattle.set_rows.specs.declared.seat.RowSeat.{RowSeat}
use Rattle.set_rows.proofs.Adding.{added_twice, look_only_adds}
use Rattle.round_pieces.proofs.delta_prop.Carries.{Carried, carried_start, licence_of, row_place, carried_by_look, carried_by_add}
use Rattle.round_pieces.proofs.delta_prop.Sounding.{sound_add_by}
use Rattle.round_pieces.proofs.delta_prop.along.carry.Goals as goal
use Rattle.round_pieces.proofs.delta_prop.along.carry.Goals.{then-lacking-ne0, else-lacking-ne0}

pub loop-k-init : goal.loop-k-init
loop-k-init c = record { own = c.requires.own; carried = carried_start (width_of (system_of c.args.table.now)) c.args.to (view c.args.seat.now) }

-- the word is one of the row to which the edge leads
word_of : (S : System) (n to k : ℕ) → n ≡ width_of S → to < S.rows → k < width_of S → to * n + k < words_of S
word_of S n to k e in_rows lt = subst (λ (m : ℕ). to * m + k < words_of S) (sym e) (row_place S.rows (width_of S) to k in_rows lt)

pub overflow_add-word : goal.overflow_add-word
overflow_add-word c =
    let S = system_of c.args.table.now in
    let item : ℕ × ℕ = get_or c.args.news.now c.loop-k.k-index (0, 0) in
    let inside : c.args.to * c.args.width + item.0 < S.rows * width_of S =
    word_of S c.args.width c.args.to item.0 c.requires.width c.requires.rows.1 (c.requires.read item.0 item.1 (Contains-get_or c.args.news.now c.loop-k.k-index (0, 0) c.loop-k-test.true)).0 in
    let size : S.rows * width_of S ≤ 2 ^ 24 = c.requires.valid.size in
    omega arith

pub look-requires-clause-word : goal.look-requires-clause-word
look-requires-clause-word c =
    let item : ℕ × ℕ = get_or c.args.news.now c.loop-k.k-index (0, 0) in
    word_of (system_of c.args.table.now) c.args.width c.args.to item.0 c.requires.width c.requires.rows.1
    (c.requires.read item.0 item.1 (Contains-get_or c.args.news.now c.loop-k.k-index (0, 0) c.loop-k-test.true)).0

pub add-requires-clause-word : goal.add-requires-clause-word
add-requires-clause-word c =
    let item : ℕ × ℕ = get_or c.args.news.now c.loop-k.k-index (0, 0) in
    word_of (system_of c.args.table.now) c.args.width c.args.to item.0 c.requires.width c.requires.rows.1
    (c.requires.read item.0 item.1 (Contains-get_or c.args.news.now c.loop-k.k-index (0, 0) c.loop-k-test.true)).0

-- what was seen before the word was looked at was seen after it
more_looked : (v u w : View) (i found : ℕ) → OnlyAdded v u → i < length u.seen → Within (get_or u.seen i 0) found → w ≡ looked u i found → OnlyAdded v w
more_looked v u w i found more lt has is = subst (OnlyAdded v) (sym is) (added_twice v u (looked u i found) more (look_only_adds u i found lt has))

pub add-requires-clause-licensed : goal.add-requires-clause-licensed
add-requires-clause-licensed c =
    let S = system_of c.args.table.now in
    let v = view c.args.seat.now in
    let u = view c.loop-k.seat in
    let item : ℕ × ℕ = get_or c.args.news.now c.loop-k.k-index (0, 0) in
    let read = c.requires.read item.0 item.1 (Contains-get_or c.args.news.now c.loop-k.k-index (0, 0) c.loop-k-test.true) in
    let i : ℕ = c.args.to * c.args.width + item.0 in
    let long : i < length u.seen = (let m = word_of S c.args.width c.args.to item.0 c.requires.width c.requires.rows.1 read.0 in let s = c.loop-k.seat.sized ∙ ap words_of c.loop-k.invariant.own.1 in omega arith) in
    licence_of S v (view c.look.new.seat) c.args.row c.args.to item.0 item.1 c.args.width c.requires.own.1
    (more_looked v u (view c.look.new.seat) i c.look.result c.loop-k.invariant.carried.more long c.look.ensures.seen c.look.ensures.view)
    c.requires.width read.0 c.requires.edge read.1

pub loop-k-preserved : goal.loop-k-preserved
loop-k-preserved c =
    let t = c.args.table.now in
    let S = system_of t in
    let W : ℕ = width_of S in
    let to : ℕ = c.args.to in
    let n : ℕ = c.args.width in
    let j : ℕ = c.loop-k.k-index in
    let news = c.args.news.now in
    let item : ℕ × ℕ = get_or news j (0, 0) in
    let k : ℕ = item.0 in
    let new : ℕ = item.1 in
    let v = view c.args.seat.now in
    let u = view c.loop-k.seat in
    let x = view c.look.new.seat in
    let i : ℕ = to * n + k in
    let inv = c.loop-k.invariant in
    let read = c.requires.read k new (Contains-get_or news j (0, 0) c.loop-k-test.true) in
    let more : take (j + 1) news ≡ take j news ++ item ∷ [] = take_more news j (0, 0) c.loop-k-test.true in
    let sized : length v.seen ≡ S.rows * W = c.args.seat.now.sized ∙ ap words_of c.requires.own.1 in
    let long : i < length u.seen = (let m = word_of S n to k c.requires.width c.requires.rows.1 read.0 in let s = c.loop-k.seat.sized ∙ ap words_of inv.own.1 in omega arith) in
    let P : RowSeat → Type 0 = λ s. record { own : IsOf t s; carried : Carried W to (take (j + 1) news) v (view s) } in
    elim c.if-lacking-ne0.branch [
      | then-lacking-ne0 w ↦
          let licensed = licence_of S v x c.args.row to k new n c.requires.own.1 (more_looked v u x i c.look.result inv.carried.more long c.look.ensures.seen c.look.ensures.view) c.requires.width read.0 c.requires.edge read.1 in
          let long' : i < length x.seen = (let e : length x.seen ≡ length u.seen = ap (λ (y : View). length y.seen) c.look.ensures.view ∙ length-set u.seen i c.look.result in omega arith) in
          subst P (sym w.seat-is) record {
            own = w.add.ensures.own;
            carried = subst (λ (xs : List (ℕ × ℕ)). Carried W to xs v (view w.add.new.seat)) (sym more) (subst (λ (y : View). Carried W to (take j news ++ item ∷ []) v y) (sym w.add.ensures.view)
                (carried_by_add W n S.rows to k new c.look.result (take j news) v u c.requires.width inv.carried read.0 c.requires.rows.1 sized c.look.ensures.seen c.look.ensures.below
                x c.look.ensures.view w.add.result w.add.ensures.seen
                (λ s. sound_add_by S x i new w.add.result (c.look.ensures.own.1) long' w.add.ensures.below licensed s)));
          }
      | else-lacking-ne0 w ↦
          subst P (sym w.seat-is) record {
            own = c.look.ensures.own;
            carried = subst (λ (xs : List (ℕ × ℕ)). Carried W to xs v x) (sym more) (subst (λ (y : View). Carried W to (take j news ++ item ∷ []) v y) (sym c.look.ensures.view)
                (carried_by_look W n S.rows to k new c.look.result (take j news) v u c.requires.width inv.carried read.0 c.requires.rows.1 sized c.look.ensures.seen c.look.ensures.below
                (omega arith) (omega arith) w.if-lacking-ne0.false));
          }
    ]

-- the whole list has gone
all_of : (W to i : ℕ) (news : List (ℕ × ℕ)) (v u : View) → Carried W to (take i news) v u → length news ≤ i → Carried W to news v u
all_of W to i news v u c past = subst (λ (xs : List (ℕ × ℕ)). Carried W to xs v u) (take_all i news past) c

pub returns-clause-carried : goal.returns-clause-carried
returns-clause-carried c =
    (all_of (width_of (system_of c.args.table.now)) c.args.to c.loop-k.k-index c.args.news.now (view c.args.seat.now) (view c.loop-k.seat) c.loop-k.invariant.carried (let n = c.loop-k-test.false in omega arith)).carried

pub returns-clause-ors : goal.returns-clause-ors
returns-clause-ors c =
    (all_of (width_of (system_of c.args.table.now)) c.args.to c.loop-k.k-index c.args.news.now (view c.args.seat.now) (view c.loop-k.seat) c.loop-k.invariant.carried (let n = c.loop-k-test.false in omega arith)).ors
