use Rattle.std.proofs.Common.{◌<◌, zip, Some, refl, sym, ◌∙◌, ap, arith}
use Rattle.std.proofs.lemmas.Option.{slice_get_within}
use Rattle.sol_model.proofs.Members.{Contains-at, at_Contains, zip_at, at_zip}
use Rattle.set_rows.proofs.rows_core.given_calls.gives_row_pairs.Goals as goal

pub returns-then-has : goal.returns-then-has
returns-then-has c = (
  λ _. (
    c.row_at-source.result,
    Contains-at (zip c.args.from.now c.args.to.now) c.loop-i.i (c.row_at-source.result, c.args.row)
        (zip_at c.args.from.now c.args.to.now c.loop-i.i _ _ c.row_at-source.ensures.value (c.row_at-target.ensures.value ∙ ap Some c.if-target-row.true)),
    sym c.has.ensures ∙ c.if-has.true,
  ),
  λ _. refl,
)

pub returns : goal.returns
returns c = (
  λ e. absurd (cc),
  λ carried. absurd (
      let w = at_Contains (zip c.args.from.now c.args.to.now) (carried.0, c.args.row) carried.1 in
      let p = at_zip c.args.from.now c.args.to.now w.0 carried.0 c.args.row w.2 in
      let in_from = slice_get_within c.args.from.now w.0 carried.0 p.0 in
      let in_to = slice_get_within c.args.to.now w.0 c.args.row p.1 in
      let here : w.0 < c.loop-i.i = omega arith in
      c.loop-i.invariant w.0 carried.0 here p.0 p.1 carried.2),
)
