use Rattle.std.proofs.Common.{◌≡◌, ap, not, true, false}
use Rattle.c_senses.specs.Sense.{sense_in}
use Rattle.c_senses.specs.Initialised.{is_automatic, is_fixed}
use Rattle.core_nodes.specs.Standing.{core_at}
use Rattle.c_results.specs.Standing.{senses_made}
use Rattle.tree_reads.specs.Sources.{source_read}
use Rattle.c_initials.proofs.ValueLaws.{is_held, is_loose}
use Rattle.c_initials.proofs.placing.fixed_or.Goals as goal

pub returns-in-Ok-true-clause-made : goal.returns-in-Ok-true-clause-made
returns-in-Ok-true-clause-made c = λ u w told.
    let s = source_read c.args.scope.now.syntax.now in
    let sense = sense_in (senses_made u c.args.scope.now.results.now) in
    let core = core_at c.args.unit.now c.args.node in
    let test = c.in-Ok-true.field-0-test in
    let says = c.in-Ok-true.ensures u w told in
    let firm : true ≡ is_fixed (is_automatic w s sense) core = cc in
    is_held w s sense c.args.is_static c.args.init core (ap not c.if-not-is_static.false) firm

pub returns-in-Ok-false-clause-made : goal.returns-in-Ok-false-clause-made
returns-in-Ok-false-clause-made c = λ u w told.
    let s = source_read c.args.scope.now.syntax.now in
    let sense = sense_in (senses_made u c.args.scope.now.results.now) in
    let core = core_at c.args.unit.now c.args.node in
    let test = c.in-Ok-false.field-0-test in
    let says = c.in-Ok-false.ensures u w told in
    let loose : false ≡ is_fixed (is_automatic w s sense) core = cc in
    is_loose w s sense c.args.is_static c.args.init core (ap not c.if-not-is_static.false) loose
