use Rattle.std.proofs.Common.{sym, ◌∙◌}
use Rattle.c_senses.specs.Sense.{sense_in}
use Rattle.core_nodes.specs.Standing.{core_at}
use Rattle.c_results.specs.Standing.{senses_made}
use Rattle.tree_reads.specs.Sources.{source_read}
use Rattle.c_initialise.proofs.Told.{text_is, type_none, text_none}
use Rattle.c_initialise.proofs.facts.expression_at.Goals as goal

pub returns-in-Some-node_at-clause-text : goal.returns-in-Some-node_at-clause-text
returns-in-Some-node_at-clause-text c =
    let u = c.args.source.now.unit.now in
    let s = source_read c.args.source.now.syntax.now in
    let sense = sense_in (senses_made u c.args.source.now.results.now) in
    c.is_text.ensures s sense
    ∙ sym (text_is s sense c.args.node c.in-Some.child (sym c.child_of.ensures ∙ c.in-Some.is) (core_at u c.in-Some-node_at.made) (c.in-Some-node_at.ensures.seen u))

pub returns-in-None-clause-ty : goal.returns-in-None-clause-ty
returns-in-None-clause-ty c =
    let u = c.args.source.now.unit.now in
    let s = source_read c.args.source.now.syntax.now in
    let sense = sense_in (senses_made u c.args.source.now.results.now) in
    c.requires.known.void ∙ sym (type_none s sense c.args.node c.in-Some.child (sym c.child_of.ensures ∙ c.in-Some.is) (c.in-None.ensures.seen u))

pub returns-in-None-clause-text : goal.returns-in-None-clause-text
returns-in-None-clause-text c =
    let u = c.args.source.now.unit.now in
    let s = source_read c.args.source.now.syntax.now in
    let sense = sense_in (senses_made u c.args.source.now.results.now) in
    sym (text_none s sense c.args.node c.in-Some.child (sym c.child_of.ensures ∙ c.in-Some.is) (c.in-None.ensures.seen u))
