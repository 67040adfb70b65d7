use Rattle.std.proofs.Common.{ap, ◌∙◌}
use Rattle.c_senses.specs.Sense.{sense_in}
use Rattle.c_results.specs.Standing.{senses_made}
use Rattle.tree_reads.specs.Sources.{source_in}
use Rattle.c_senses.specs.Tree.{is_number}
use Rattle.c_statements.proofs.Choosing.{default_here, no_default, other_default}
use Rattle.c_statements.proofs.choices.default_of.Goals as goal

pub returns-then-not-is_statement_of : goal.returns-then-not-is_statement_of
returns-then-not-is_statement_of c = λ w uses switch.
    let s = source_in c.args.syntax.now uses in
    let sense = sense_in (senses_made c.args.unit.now c.args.results.now) in
    other_default w s sense c.args.at switch (c.if-not-is_statement_of.ensures w uses sense)

pub returns-then-not-default_made : goal.returns-then-not-default_made
returns-then-not-default_made c = λ w uses switch.
    let s = source_in c.args.syntax.now uses in
    let sense = sense_in (senses_made c.args.unit.now c.args.results.now) in
    no_default w s sense c.args.at switch (c.if-not-is_statement_of.ensures w uses sense) (c.if-not-default_made.ensures w s)

pub returns : goal.returns
returns c = λ w uses switch.
    let s = source_in c.args.syntax.now uses in
    let sense = sense_in (senses_made c.args.unit.now c.args.results.now) in
    ap (λ o. is_number o switch) c.nearest_above.ensures.nearest ∙ default_here w s sense c.args.at switch (c.if-not-is_statement_of.ensures w uses sense) (c.if-not-default_made.ensures w s)
