use Rattle.mod_ref.proofs.Paths.{one_set}
use Rattle.mod_ref.proofs.classes.classes.Goals as goal

pub returns : goal.returns
returns c = one_set c.args.functions c.args.edges.now c.in_ok-system.system c.requires c.in_ok-system.ensures.system c.in_ok-first.first.items c.in_ok-first.ensures
