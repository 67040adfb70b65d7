use Rattle.std.proofs.Common.{◌≡◌, ℕ, ◌<◌, List, Some, slice_get, zip, Contains, sym, ◌∙◌, ap, arith}
use Rattle.std.proofs.lemmas.Option.{same_Some, slice_get_within}
use Rattle.sol_model.proofs.Members.{Contains-at, at_Contains, zip_at, at_zip}
use Rattle.edge_book.proofs.Gaining.{Below, none_below, one_more, gains_same}
use Rattle.edge_book.proofs.gather.put_row_pairs.Goals as goal

abbrev At : List ℕ → List ℕ → ℕ → ℕ → ℕ → Type 0
At from to k a b = (slice_get from k ≡ Some a) × (slice_get to k ≡ Some b)

pub loop-i-init : goal.loop-i-init
loop-i-init c = none_below c.args.pairs.now.items (At c.args.from.now c.args.to.now)

pub loop-i-preserved : goal.loop-i-preserved
loop-i-preserved c =
    let mid = c.loop-i.pairs.items in
    let new = c.put.new.pairs.items in
    one_more c.args.pairs.now.items mid new c.loop-i.i (At c.args.from.now c.args.to.now) c.loop-i.invariant
    (gains_same mid new (λ a b. (a ≡ c.row_at.result) × (b ≡ c.row_at-in-loop-i.result)) (At c.args.from.now c.args.to.now c.loop-i.i)
    (λ a b h. (c.row_at.ensures.value ∙ ap Some (sym h.0), c.row_at-in-loop-i.ensures.value ∙ ap Some (sym h.1)))
    (λ a b h. (same_Some _ _ (sym h.0 ∙ c.row_at.ensures.value), same_Some _ _ (sym h.1 ∙ c.row_at-in-loop-i.ensures.value)))
    c.in_ok-put.ensures)

pub returns : goal.returns
returns c =
    let from = c.args.from.now in
    let to = c.args.to.now in
    gains_same c.args.pairs.now.items c.loop-i.pairs.items (Below c.loop-i.i (At from to)) (λ a b. Contains (zip from to) (a, b))
    (λ a b h. Contains-at (zip from to) h.0 (a, b) (zip_at from to h.0 a b h.2.0 h.2.1))
    (λ a b h.
    let w = at_Contains (zip from to) (a, b) h in
    let p = at_zip from to w.0 a b w.2 in
    let in_from = slice_get_within from w.0 a p.0 in
    let in_to = slice_get_within to w.0 b p.1 in
    let here : w.0 < c.loop-i.i = omega arith in
    (w.0, here, p))
    c.loop-i.invariant
