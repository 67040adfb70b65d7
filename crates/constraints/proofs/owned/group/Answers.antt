use Rattle.std.proofs.Common.{arith}
use Rattle.std.proofs.lemmas.List.Elements.{filter_more}
use Rattle.std.proofs.lemmas.Grind.{common_steps}
use Rattle.constraints.proofs.owned.group.Goals as goal

pub loop-key-preserved : goal.loop-key-preserved
loop-key-preserved c = λ f.
    grind (arith, common_steps, filter_more, c.in_ok-give.ensures f, c.loop-key.invariant f)
