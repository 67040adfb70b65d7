use Rattle.c_senses.specs.Sense.{sense_in}
use Rattle.c_results.specs.Standing.{senses_made}
use Rattle.tree_reads.specs.Sources.{source_in}
use Rattle.name_uses.proofs.Looking.{first_looked}
use Rattle.name_uses.proofs.around.around_primary.Goals as goal

pub returns-then-is_empty-clause-within : goal.returns-then-is_empty-clause-within
returns-then-is_empty-clause-within c = c.nothing.ensures.within c.args.unit.now

pub returns-in-Identifier-clause-looked : goal.returns-in-Identifier-clause-looked
returns-in-Identifier-clause-looked c = λ w uses pairs is.
    let new = c.around_identifier.new.unit in
    first_looked w new (source_in c.args.syntax.now uses) (sense_in (senses_made new c.args.results.now)) c.args.children.now c.args.at c.around_identifier.result c.if-is_empty.ensures c.in-Identifier.ensures
    (c.around_identifier.ensures.looked w uses pairs is)

pub returns-in-Keyword-clause-within : goal.returns-in-Keyword-clause-within
returns-in-Keyword-clause-within c = c.nothing-in-Keyword.ensures.within c.args.unit.now

pub returns-in-Floating-clause-within : goal.returns-in-Floating-clause-within
returns-in-Floating-clause-within c = c.nothing-in-Floating.ensures.within c.args.unit.now
