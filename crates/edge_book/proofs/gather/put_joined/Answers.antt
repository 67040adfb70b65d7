use Rattle.std.proofs.Common.{◌≡◌, ℕ, ◌<◌, List, Some, slice_get, zip, Contains, sym, ◌∙◌, subst, arith}
use Rattle.std.proofs.lemmas.Option.{same_Some, slice_get_within}
use Rattle.sol_model.proofs.Members.{Contains-at, at_Contains, zip_at, at_zip}
use Rattle.edge_book.proofs.Gaining.{Below, none_below, one_more, gains_same}
use Rattle.sol_model.specs.Rules.{AreJoined}
use Rattle.edge_book.proofs.gather.put_joined.Goals as goal

abbrev At : List (List ℕ) → List (List ℕ) → ℕ → ℕ → ℕ → Type 0
At sources targets k a b = (from : List ℕ) × (to : List ℕ) × (slice_get sources k ≡ Some from) × (slice_get targets k ≡ Some to) × Contains (zip from to) (a, b)

pub loop-i-init : goal.loop-i-init
loop-i-init c = none_below c.args.pairs.now.items (At c.args.from.now c.args.to.now)

pub loop-i-preserved : goal.loop-i-preserved
loop-i-preserved c =
    let mid = c.loop-i.pairs.items in
    let new = c.put_row_pairs.new.pairs.items in
    let xs = c.rows_at-sources.result.now in
    let ys = c.rows_at-targets.result.now in
    one_more c.args.pairs.now.items mid new c.loop-i.i (At c.args.from.now c.args.to.now) c.loop-i.invariant
    (gains_same mid new (λ a b. Contains (zip xs ys) (a, b)) (At c.args.from.now c.args.to.now c.loop-i.i)
    (λ a b h. (xs, ys, c.rows_at-sources.ensures.value, c.rows_at-targets.ensures.value, h))
    (λ a b h. subst (λ (vs : List ℕ). Contains (zip vs ys) (a, b)) (same_Some _ _ (sym h.2 ∙ c.rows_at-sources.ensures.value))
    (subst (λ (vs : List ℕ). Contains (zip h.0 vs) (a, b)) (same_Some _ _ (sym h.3 ∙ c.rows_at-targets.ensures.value)) h.4))
    c.in_ok-put_row_pairs.ensures)

pub returns : goal.returns
returns c =
    let from = c.args.from.now in
    let to = c.args.to.now in
    gains_same c.args.pairs.now.items c.loop-i.pairs.items (Below c.loop-i.i (At from to)) (AreJoined from to)
    (λ a b h. ((h.2.0, h.2.1), Contains-at (zip from to) h.0 (h.2.0, h.2.1) (zip_at from to h.0 h.2.0 h.2.1 h.2.2 h.2.3), h.2.4))
    (λ a b h.
    let w = at_Contains (zip from to) h.0 h.1 in
    let p = at_zip from to w.0 h.0.0 h.0.1 w.2 in
    let in_from = slice_get_within from w.0 h.0.0 p.0 in
    let in_to = slice_get_within to w.0 h.0.1 p.1 in
    let here : w.0 < c.loop-i.i = omega arith in
    (w.0, here, (h.0.0, h.0.1, p.0, p.1, h.2)))
    c.loop-i.invariant
