use Rattle.tree_reads.proofs.leaf_maps.Apart.{not_equal}
use Rattle.unit_keys.proofs.given_keys.kept.KeptKeys.put.Goals as goal

pub returns-clause-others : goal.returns-clause-others
returns-clause-others c q apart = rw (← c.self.view_is) (c.in_ok-insert.ensures.updates.2 q (not_equal c.args.node q apart))
