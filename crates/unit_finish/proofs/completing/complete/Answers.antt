use Rattle.std.proofs.Common.{refl}
use Rattle.core_tree.specs.declared.node.Unit.{Unit}
use Rattle.tree_reads.specs.leaf_maps.Numbers.{number_at}
use Rattle.unit_finish.proofs.Finished.{made_of}
use Rattle.unit_finish.proofs.completing.complete.Goals as goal

pub returns : goal.returns
returns c =
    let v : Unit = record { name = c.args.heading.name; types = c.args.types; tags = c.args.keys; nodes = c.in_ok-nodes.nodes; entities = c.in_ok-entities.entities } in
    let m = made_of c.args.heading.name c.args.heading.unit c.args.types c.args.keys.items c.args.nodes.items c.args.list.items c.as_slice.result.now v (number_at c.in_ok-numbers.numbers) c.as_slice-2.result.now c.as_slice.ensures.value c.in_ok-numbers.ensures refl refl refl c.in_ok-nodes.ensures c.as_slice-2.ensures.value c.in_ok-entities.ensures in
    record { made = m; names_whole = c.requires.names_whole; initialises_once = c.requires.initialises_once v m; valid = c.requires.valid v m }
