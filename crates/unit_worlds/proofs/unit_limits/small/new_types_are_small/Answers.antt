use Rattle.std.proofs.Common.{arith}
use Rattle.unit_worlds.proofs.unit_limits.Staying.{building_small}
use Rattle.unit_worlds.proofs.unit_limits.small.new_types_are_small.Goals as goal

pub returns-clause-built : goal.returns-clause-built
returns-clause-built c = λ old yes built from ok.
    building_small old c.args.unit.now c.type_count-id-end.ensures.made c.type_count-id-end.ensures.named built
    (record { each = λ id behind lt. c.loop-id.invariant id (omega (arith, from, behind)) (omega (arith, c.type_count-id-end.ensures.count, c.loop-id-test.false, lt)) }) ok
