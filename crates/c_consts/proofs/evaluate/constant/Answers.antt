use Rattle.c_consts.proofs.Trees.{tree_of}
use Rattle.c_consts.proofs.evaluate.constant.Goals as goal

pub returns-clause-tree : goal.returns-clause-tree
returns-clause-tree c = tree_of c.args.types.now c.args.nodes.now c.requires.order c.args.node c.requires.node
