use Rattle.std.proofs.Common.{arith, Err, sym, ◌∙◌}
use Rattle.core_nodes.specs.Standing.{core_at}
use Rattle.core_nodes.proofs.Failing.{made_same}
use Rattle.core_nodes.proofs.Growing.{builds_on, knows_on}
use Rattle.c_operators.proofs.Ways.{way_goes_on, way_fails}
use Rattle.c_operators.proofs.members.along.Goals as goal

pub returns-in-Err-clause-made : goal.returns-in-Err-clause-made
returns-in-Err-clause-made c w k =
    let u0 = c.args.unit.now in
    let u = c.loop-k.unit in
    let way = c.args.way.now in
    let i = c.loop-k.k-index in
    let k1 = knows_on w u0 u c.loop-k.invariant.builds k in
    made_same c.one_step.new.unit (Err c.in-Err.fault) _ _ (sym (c.loop-k.invariant.way w k))
    (way_fails w c.args.place c.args.at way i (omega (arith, c.loop-k-test.true)) (core_at u c.loop-k.reached) c.one_step.new.unit c.in-Err.fault (c.in-Err.ensures.made w k1))

pub loop-k-preserved : goal.loop-k-preserved
loop-k-preserved c =
    let u0 = c.args.unit.now in
    let u = c.loop-k.unit in
    let u1 = c.one_step.new.unit in
    let way = c.args.way.now in
    let i = c.loop-k.k-index in
    record {
      ready = c.in-Ok.ensures.ready;
      builds = builds_on u0 u u1 c.loop-k.invariant.builds c.in-Ok.ensures.builds;
      within = c.in-Ok.ensures.within;
      way = λ w k.
          let k1 = knows_on w u0 u c.loop-k.invariant.builds k in
          c.loop-k.invariant.way w k ∙ way_goes_on w c.args.place c.args.at way i (omega (arith, c.loop-k-test.true)) (core_at u c.loop-k.reached) u1 c.in-Ok.member (c.in-Ok.ensures.made w k1);
    }
