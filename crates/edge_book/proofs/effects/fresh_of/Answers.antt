use Rattle.std.proofs.Common.{◌≡◌, ℕ, slice_get, sym, ◌∙◌, ap, inl, inr, arith}
use Rattle.std.proofs.lemmas.Option.{same_Some}
use Rattle.std.proofs.lemmas.Bool.{cases_lt}
use Rattle.edge_book.proofs.Alone.{fresh_here}
use Rattle.edge_book.proofs.effects.fresh_of.Goals as goal

pub returns-then-function-number-clause-value : goal.returns-then-function-number-clause-value
returns-then-function-number-clause-value c = fresh_here c.args.call.now.fresh c.args.number c.loop-i.i c.fresh_at-function.result c.requires.once c.fresh_at-function.ensures c.if-function-number.true

pub loop-i-preserved : goal.loop-i-preserved
loop-i-preserved c k pair h at is = elim (cases_lt k c.loop-i.i) [
  | inl lt ↦ c.loop-i.invariant k pair lt at is
  | inr ge ↦
      (let here : c.loop-i.i ≡ k = omega arith in
      let same : c.fresh_at-function.result ≡ pair = same_Some _ _ (sym c.fresh_at-function.ensures ∙ ap (slice_get c.args.call.now.fresh) here ∙ at) in
      c.if-function-number.false (ap (λ (p : ℕ × ℕ). p.0) same ∙ is))
]
