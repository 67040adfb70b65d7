use Rattle.c_types.specs.Table.{type_of}
use Rattle.c_senses.specs.Sense.{sense_in}
use Rattle.c_results.specs.Standing.{senses_made}
use Rattle.tree_reads.specs.Sources.{source_in}
use Rattle.c_named.proofs.Judging.{definition_not, definition_unfit, definition_inline, definition_passed}
use Rattle.c_named.proofs.definitions.definition_row.Goals as goal

pub returns-then-not-is_defined : goal.returns-then-not-is_defined
returns-then-not-is_defined c = λ u w uses knows g.
    let s = source_in c.args.syntax.now uses in
    let sense = sense_in (senses_made u c.args.results.now) in
    definition_not w s sense c.args.leaf (type_of c.args.unit.now.types c.args.ty.0) (c.if-not-is_defined.ensures sense) g

pub returns-then-not-result_fits : goal.returns-then-not-result_fits
returns-then-not-result_fits c = λ u w uses knows g.
    let s = source_in c.args.syntax.now uses in
    let sense = sense_in (senses_made u c.args.results.now) in
    definition_unfit w s sense c.args.leaf (type_of c.args.unit.now.types c.args.ty.0) (c.if-not-is_defined.ensures sense) (c.if-not-result_fits.ensures w s sense knows) g

pub returns-then-is_inline_alone : goal.returns-then-is_inline_alone
returns-then-is_inline_alone c = λ u w uses knows g.
    let s = source_in c.args.syntax.now uses in
    let sense = sense_in (senses_made u c.args.results.now) in
    definition_inline w s sense c.args.leaf (type_of c.args.unit.now.types c.args.ty.0) (c.if-not-is_defined.ensures sense) (c.if-not-result_fits.ensures w s sense knows) (c.if-is_inline_alone.ensures u) g

pub returns : goal.returns
returns c = λ u w uses knows g.
    let s = source_in c.args.syntax.now uses in
    let sense = sense_in (senses_made u c.args.results.now) in
    definition_passed w s sense c.args.leaf (type_of c.args.unit.now.types c.args.ty.0) (c.if-not-is_defined.ensures sense) (c.if-not-result_fits.ensures w s sense knows) (c.if-is_inline_alone.ensures u) g
