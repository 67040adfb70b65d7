use Rattle.std.proofs.Common.{◌<◌, arith}
use Rattle.sol_model.specs.Families.{members}
use Rattle.sol_model.specs.Rules.{Gives}
use Rattle.sol_model.proofs.Fitting.{given_known}
use Rattle.sol_model.proofs.Members.{at_Contains}
use Rattle.set_rows.proofs.rows_core.Looking.{ruled_out, none_next}
use Rattle.set_rows.proofs.rows_core.given.is_given.Goals as goal

pub returns-then-location-len : goal.returns-then-location-len
returns-then-location-len c = (
  λ e. absurd (cc),
  λ given. absurd (
      let known = given_known c.args.system.now c.args.rows.now c.requires.fits c.requires.valid c.args.row c.args.location given in
      let location = known.1 in
      omega arith),
)

pub loop-i-preserved : goal.loop-i-preserved
loop-i-preserved c =
    none_next c.args.system.now.constraints (λ i constraint. Gives c.args.system.now (members c.args.rows.now) constraint c.args.row c.args.location)
    c.loop-i.i c.constraint_at.result c.constraint_at.ensures.value c.loop-i.invariant (ruled_out _ _ c.if-gives.false c.gives.ensures.1)

pub returns : goal.returns
returns c = (
  λ e. absurd (cc),
  λ given. absurd (
      let w = at_Contains c.args.system.now.constraints given.0 given.1 in
      let lt = w.1 in
      let end = c.len-i-end.ensures in
      let past = c.loop-i-test.false in
      let here : w.0 < c.loop-i.i = omega arith in
      c.loop-i.invariant w.0 given.0 here w.2 given.2),
)
