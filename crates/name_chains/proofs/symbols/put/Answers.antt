use Rattle.tree_reads.proofs.leaf_maps.Apart.{not_equal}
use Rattle.name_chains.proofs.symbols.put.Goals as goal

pub returns-clause-others : goal.returns-clause-others
returns-clause-others c = λ q apart. c.in_ok-insert.ensures.updates.2 q (not_equal c.args.symbol q apart)
