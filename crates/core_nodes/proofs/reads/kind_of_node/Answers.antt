use Rattle.std.proofs.Common.{refl, length}
use Rattle.std.proofs.lemmas.Option.{slice_get_read}
use Rattle.core_nodes.proofs.Reading.{kind_is}
use Rattle.core_nodes.proofs.reads.kind_of_node.Goals as goal

pub returns : goal.returns
returns c =
    let nodes = c.args.unit.now.nodes.items in
    kind_is c.args.unit.now c.requires.ready c.args.node c.index.result.now (slice_get_read nodes (length nodes) c.args.node c.index.result.now refl c.requires.node c.index.ensures)
