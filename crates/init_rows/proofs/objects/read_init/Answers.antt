use Rattle.c_senses.specs.Sense.{sense_in}
use Rattle.c_results.specs.Standing.{senses_made}
use Rattle.tree_reads.specs.Sources.{source_read}
use Rattle.init_rows.proofs.ObjectLaws.{init_read}
use Rattle.init_rows.proofs.objects.read_init.Goals as goal

pub returns : goal.returns
returns c = λ w fills.
    let u = c.args.unit.now in
    let s = source_read c.args.scope.now.syntax.now in
    let sense = sense_in (senses_made u c.args.scope.now.results.now) in
    init_read w s sense u fills c.args.ty.0 c.args.at c.initialise_node.result c.requires.init c.initialise_node.ensures
