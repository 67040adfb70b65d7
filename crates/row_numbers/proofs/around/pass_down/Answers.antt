use Rattle.std.proofs.Common.{arith, ◌<◌, get_or, length}
use Rattle.std.proofs.lemmas.List.{take_more}
use Rattle.row_numbers.proofs.AroundLemmas.{passes_more}
use Rattle.row_numbers.proofs.around.pass_down.Goals as goal

pub loop-child-preserved : goal.loop-child-preserved
loop-child-preserved c =
    let lt = c.requires c.loop-child.child-index 0 c.loop-child-test.true in
    let bound : get_or c.args.children.now c.loop-child.child-index 0 < length c.loop-child.owners.items = omega (arith, c.loop-child.invariant.each) in
    rw (take_more c.args.children.now c.loop-child.child-index 0 c.loop-child-test.true) (passes_more _ _ _ _ _ c.loop-child.invariant bound)
