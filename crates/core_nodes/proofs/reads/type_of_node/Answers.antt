use Rattle.std.proofs.Common.{refl, length}
use Rattle.std.proofs.lemmas.Option.{slice_get_read}
use Rattle.core_nodes.proofs.Reading.{type_is}
use Rattle.core_nodes.proofs.reads.type_of_node.Goals as goal

pub returns-clause-tree : goal.returns-clause-tree
returns-clause-tree c =
    let nodes = c.args.unit.now.nodes.items in
    type_is c.args.unit.now c.requires.ready c.args.node c.index.result.now (slice_get_read nodes (length nodes) c.args.node c.index.result.now refl c.requires.node c.index.ensures)

pub returns-clause-within : goal.returns-clause-within
returns-clause-within c =
    let nodes = c.args.unit.now.nodes.items in
    c.requires.ready.types c.args.node c.index.result.now (slice_get_read nodes (length nodes) c.args.node c.index.result.now refl c.requires.node c.index.ensures)
