use Rattle.std.proofs.Common.{sym, ◌∙◌}
use Rattle.unit_report.proofs.unit_system.Unnamed.{none_named}
use Rattle.unit_report.proofs.unit_system.linking.linked_at.Goals as goal

pub returns-then-is_empty-clause-linked : goal.returns-then-is_empty-clause-linked
returns-then-is_empty-clause-linked c = none_named c.args.entries.now c.args.units.items c.link.result (sym c.is_empty.ensures ∙ c.if-is_empty.true) c.link.ensures.linked
