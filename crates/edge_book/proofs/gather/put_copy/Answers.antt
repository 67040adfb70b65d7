use Rattle.std.proofs.Common.{◌≡◌, ℕ, ◌<◌, Some, slice_get, sym, ◌∙◌, ap, arith}
use Rattle.std.proofs.lemmas.Option.{same_Some}
use Rattle.sol_model.proofs.Members.{Contains-at, at_Contains}
use Rattle.edge_book.proofs.Gaining.{Below, none_below, one_more, gains_same}
use Rattle.sol_model.specs.declared.system.System.{System}
use Rattle.sol_model.specs.Places.{deep}
use Rattle.sol_model.specs.Rules.{PairEdge}
use Rattle.edge_book.proofs.gather.put_copy.Goals as goal

abbrev At : System → ℕ → ℕ → ℕ → ℕ → ℕ → Type 0
At S to from k a b = slice_get (deep S to from) k ≡ Some (b, a)

pub loop-i-init : goal.loop-i-init
loop-i-init c = none_below c.args.pairs.now.items (At c.args.system.now c.args.to c.args.from)

pub loop-i-preserved : goal.loop-i-preserved
loop-i-preserved c =
    let mid = c.loop-i.pairs.items in
    let new = c.put.new.pairs.items in
    let pair : ℕ × ℕ = c.pair_at-at.result in
    one_more c.args.pairs.now.items mid new c.loop-i.i (At c.args.system.now c.args.to c.args.from) c.loop-i.invariant
    (gains_same mid new (λ a b. (a ≡ pair.1) × (b ≡ pair.0)) (At c.args.system.now c.args.to c.args.from c.loop-i.i)
    (λ a b h. c.pair_at-at.ensures.value ∙ (λ k. Some (sym h.1 k, sym h.0 k)))
    (λ a b h. let e : (b, a) ≡ pair = same_Some _ _ (sym h ∙ c.pair_at-at.ensures.value) in (ap (λ (p : ℕ × ℕ). p.1) e, ap (λ (p : ℕ × ℕ). p.0) e))
    c.in_ok-put.ensures)

pub returns : goal.returns
returns c =
    let pairs = deep c.args.system.now c.args.to c.args.from in
    gains_same c.args.pairs.now.items c.loop-i.pairs.items (Below c.loop-i.i (At c.args.system.now c.args.to c.args.from)) (PairEdge c.args.system.now c.args.to c.args.from)
    (λ a b h. Contains-at pairs h.0 (b, a) h.2)
    (λ a b h.
    let w = at_Contains pairs (b, a) h in
    let end = c.pair_count-i-end.ensures in
    let past = c.loop-i-test.false in
    let lt = w.1 in
    let here : w.0 < c.loop-i.i = omega arith in
    (w.0, here, w.2))
    c.loop-i.invariant
