use Rattle.tree_reads.specs.Sources.{source_in}
use Rattle.c_meanings.specs.Known.{nodes_in}
use Rattle.c_meanings.proofs.names.declared_at.Goals as goal

pub returns : goal.returns
returns c = λ uses. c.declared_at.ensures (source_in c.args.syntax.now uses) (nodes_in c.args.syntax.now) c.requires.names.chains
