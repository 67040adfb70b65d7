use Rattle.std.proofs.Common.{arith}
use Rattle.c_literals.proofs.Inside.{rest_are, all_are}
use Rattle.c_literals.proofs.strings.is_narrow.Goals as goal

pub loop-element-preserved : goal.loop-element-preserved
loop-element-preserved c =
    let inside = c.loop-element.rest.now in
    let behind = c.in-Some.element.behind.now in
    let e = c.in-Some.ensures in
    (λ all. c.loop-element.invariant.0 (all_are inside behind _ e (omega arith) all), λ all. rest_are inside behind _ e (c.loop-element.invariant.1 all))
