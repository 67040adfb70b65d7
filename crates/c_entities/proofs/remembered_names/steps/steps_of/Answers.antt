use Rattle.std.proofs.Common.{sym, ◌∙◌}
use Rattle.c_entities.proofs.remembered_names.steps.steps_of.Goals as goal

pub of_parameter-requires-clause-parameter : goal.of_parameter-requires-clause-parameter
of_parameter-requires-clause-parameter c = λ sense. sym (c.is_parameter.ensures sense) ∙ c.if-is_parameter.true

pub of_declarator-requires-clause-other : goal.of_declarator-requires-clause-other
of_declarator-requires-clause-other c = λ sense. sym (c.is_parameter.ensures sense) ∙ c.if-is_parameter.false
