use Rattle.c_senses.specs.Sense.{sense_in}
use Rattle.c_results.specs.Standing.{senses_made}
use Rattle.tree_reads.specs.Sources.{source_in}
use Rattle.c_meanings.proofs.Fronts.{front_none}
use Rattle.c_meanings.proofs.statics.some_static.Goals as goal

pub returns-then-is_front : goal.returns-then-is_front
returns-then-is_front c = λ u uses.
    let s = source_in c.args.syntax.now uses in
    let sense = sense_in (senses_made u c.args.results.now) in
    front_none c.args.names.now.chains.links.items c.args.seen c.args.last s sense c.requires.names.chains.links (c.is_front.ensures c.if-is_front.true) (c.requires.seen.flag u uses)
