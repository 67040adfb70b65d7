use Rattle.twin_report_laws.proofs.outcome_laws.used_names.Parts.{uses_are_parts}
use Rattle.twin_report_laws.proofs.outcome_laws.used_names.laws.uses_are_parts.Goals as goal

pub returns : goal.returns
returns c = uses_are_parts
