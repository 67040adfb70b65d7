use Rattle.std.proofs.Common.{sym, ◌∙◌}
use Rattle.c_senses.specs.Sense.{sense_in}
use Rattle.c_results.specs.Standing.{senses_made}
use Rattle.tree_reads.specs.Sources.{source_in}
use Rattle.c_initialise.specs.Facts.{no_world}
use Rattle.init_rows.proofs.RowLaws.{no_name_at, name_at}
use Rattle.init_rows.proofs.rows.initialised_name.Goals as goal

pub returns-in-Some-initialised_by-clause-name : goal.returns-in-Some-initialised_by-clause-name
returns-in-Some-initialised_by-clause-name c = λ u uses.
    let s = source_in c.args.syntax.now uses in
    let sense = sense_in (senses_made u c.args.results.now) in
    c.declared_name.ensures.name u ∙ sym (name_at no_world s sense c.args.at c.in-Some.parent c.in-Some.ensures.parent c.if-not-is_a.ensures c.in-Some-initialised_by.declarator (c.in-Some-initialised_by.ensures sense))

pub returns-in-None-clause-name : goal.returns-in-None-clause-name
returns-in-None-clause-name c = λ u uses.
    let s = source_in c.args.syntax.now uses in
    let sense = sense_in (senses_made u c.args.results.now) in
    sym (no_name_at no_world s sense c.args.at c.in-Some.parent c.in-Some.ensures.parent c.if-not-is_a.ensures (c.in-None.ensures sense))
