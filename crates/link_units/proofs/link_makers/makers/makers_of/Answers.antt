use Rattle.std.proofs.Common.{arith}
use Rattle.link_names.specs.Scene.{joined_of}
use Rattle.link_units.proofs.link_makers.Gathers.{makers_right}
use Rattle.link_units.proofs.link_makers.makers.makers_of.Goals as goal

pub returns : goal.returns
returns c =
    let s = c.args.scene.now in
    let all = c.loop-here.invariant.all in
    makers_right (joined_of s) s.declared.now c.in_ok-bodies.bodies.items c.in_ok-defined.defined.items c.loop-here.list.items c.in_ok-bodies.ensures c.in_ok-defined.ensures (omega arith) (λ k l. c.loop-here.invariant.each k (omega arith))
