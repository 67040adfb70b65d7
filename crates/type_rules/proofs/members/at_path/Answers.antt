use Rattle.std.proofs.Common.{sym, ◌∙◌}
use Rattle.c_types.specs.Table.{type_of}
use Rattle.type_rules.proofs.Parts.{left_at}
use Rattle.type_rules.proofs.members.at_path.Goals as goal

pub returns-in-None-clause-part : goal.returns-in-None-clause-part
returns-in-None-clause-part c =
    sym (left_at c.args.types.now (type_of c.args.types.now c.loop-step.part.0) c.args.path.now c.loop-step.step-index _ c.loop-step-test.true (sym c.in-None.ensures.part)) ∙ c.loop-step.invariant.below
