use Rattle.std.proofs.Common.{◌≡◌, ℕ, ◌<◌, List, zip, slice_get, Contains, refl, sym, ◌∙◌, ap, subst, inl, inr, arith}
use Rattle.std.proofs.lemmas.Bool.{cases_lt}
use Rattle.std.proofs.lemmas.Option.{slice_get_within, same_Some}
use Rattle.sol_model.specs.Families.{members}
use Rattle.sol_model.proofs.Members.{Contains-at, at_Contains, zip_at, at_zip}
use Rattle.set_rows.specs.rows_core.Given.{IsCarried}
use Rattle.set_rows.proofs.rows_core.Looking.{ruled_out}
use Rattle.set_rows.proofs.rows_core.given_calls.gives_joined.Goals as goal

pub returns-then-gives_row_pairs : goal.returns-then-gives_row_pairs
returns-then-gives_row_pairs c =
    let carried = c.gives_row_pairs.ensures.0 c.if-gives_row_pairs.true in (
      λ _. (
        carried.0,
        (
          (c.rows_at-sources.result.now, c.rows_at-targets.result.now),
          Contains-at (zip c.args.from.now c.args.to.now) c.loop-i.i _ (zip_at c.args.from.now c.args.to.now c.loop-i.i _ _ c.rows_at-sources.ensures.value c.rows_at-targets.ensures.value),
          carried.1,
        ),
        carried.2,
      ),
      λ _. refl,
    )

pub loop-i-preserved : goal.loop-i-preserved
loop-i-preserved c k from to h at_from at_to carried = elim (cases_lt k c.loop-i.i) [
  | inl lt ↦ c.loop-i.invariant k from to lt at_from at_to carried
  | inr ge ↦
      (let here : c.loop-i.i ≡ k = omega arith in
      let same_from : from ≡ c.rows_at-sources.result.now = same_Some _ _ (sym at_from ∙ ap (slice_get c.args.from.now) (sym here) ∙ c.rows_at-sources.ensures.value) in
      let same_to : to ≡ c.rows_at-targets.result.now = same_Some _ _ (sym at_to ∙ ap (slice_get c.args.to.now) (sym here) ∙ c.rows_at-targets.ensures.value) in
      ruled_out _ _ c.if-gives_row_pairs.false c.gives_row_pairs.ensures.1
      (subst (λ (ys : List ℕ). IsCarried (λ a b. Contains (zip c.rows_at-sources.result.now ys) (a, b)) (members c.args.rows.now) c.args.row c.args.location) same_to
      (subst (λ (xs : List ℕ). IsCarried (λ a b. Contains (zip xs to) (a, b)) (members c.args.rows.now) c.args.row c.args.location) same_from carried)))
]

pub returns : goal.returns
returns c = (
  λ e. absurd (cc),
  λ carried. absurd (
      let edge = carried.1 in
      let w = at_Contains (zip c.args.from.now c.args.to.now) edge.0 edge.1 in
      let p = at_zip c.args.from.now c.args.to.now w.0 edge.0.0 edge.0.1 w.2 in
      let in_from = slice_get_within c.args.from.now w.0 edge.0.0 p.0 in
      let in_to = slice_get_within c.args.to.now w.0 edge.0.1 p.1 in
      let here : w.0 < c.loop-i.i = omega arith in
      c.loop-i.invariant w.0 edge.0.0 edge.0.1 here p.0 p.1 (carried.0, edge.2, carried.2)),
)
