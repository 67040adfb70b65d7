use Rattle.std.proofs.Common.{arith, ap}
use Rattle.std.proofs.lemmas.List.Sums.{sum_by_more}
use Rattle.row_covers.specs.Targets.{call_unit}
use Rattle.row_covers.proofs.targets.calls_before.Goals as goal

pub loop-m-preserved : goal.loop-m-preserved
loop-m-preserved c =
    let more = sum_by_more call_unit c.args.nodes.now c.loop-m.m c.index-nodes-m.result (omega (arith, c.requires, c.loop-m-test.true)) in
    let here = ap call_unit c.index-nodes-m.is in
    let unit = c.call_unit-count.ensures.unit in
    let within = c.call_unit-count.ensures.within in
    let value = c.loop-m.invariant.value in
    let small = c.loop-m.invariant.small in
    record { value = omega (arith, more, here, unit, value); small = omega (arith, within, small) }
