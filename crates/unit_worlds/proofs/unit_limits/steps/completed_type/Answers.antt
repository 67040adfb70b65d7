use Rattle.std.proofs.Common.{sym, ◌∙◌}
use Rattle.c_results.specs.Standing.{sense_made}
use Rattle.tree_reads.specs.Sources.{source_in}
use Rattle.unit_worlds.proofs.unit_limits.Specifiers.{of_row, tag_of_row}
use Rattle.unit_worlds.proofs.unit_limits.steps.completed_type.Goals as goal

pub returns-in-Some-clause-tag : goal.returns-in-Some-clause-tag
returns-in-Some-clause-tag c = λ u w uses sense row.
    of_row (source_in c.args.syntax.now uses) sense c.args.at u w c.typed.result (sense_made u c.args.made.now) (c.typed.ensures.seen u)
    (row (sym c.is_a.ensures ∙ c.if-not-is_a.false))

pub returns-in-Some-clause-tagged : goal.returns-in-Some-clause-tagged
returns-in-Some-clause-tagged c = λ u w uses sense row.
    tag_of_row (source_in c.args.syntax.now uses) sense c.args.at u w c.typed.result (sense_made u c.args.made.now) (c.typed.ensures.seen u)
    (row (sym c.is_a.ensures ∙ c.if-not-is_a.false))
