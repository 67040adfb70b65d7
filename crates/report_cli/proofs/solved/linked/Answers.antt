use Rattle.text_units.specs.Answers.{names_of}
use Rattle.report_cli.proofs.Linked.{system_refused, denoted}
use Rattle.report_cli.proofs.Naming.{are_distinct}
use Rattle.report_cli.proofs.solved.linked.Goals as goal

pub returns-in-Ok-clause-linked : goal.returns-in-Ok-clause-linked
returns-in-Ok-clause-linked c texts right =
    let made = c.in-Ok.made in
    denoted c.args.entries.now texts c.args.units.items right made.program made.space made.system c.in-Ok.ensures.linked

pub returns-in_ok-system_refusal-in-Err-clause-refused : goal.returns-in_ok-system_refusal-in-Err-clause-refused
returns-in_ok-system_refusal-in-Err-clause-refused c texts named right =
    system_refused c.args.entries.now texts c.args.units.items right (names_of c.args.names.now) c.in-Err.fault _ named c.in-Err.ensures.linked c.in_ok-system_refusal-in-Err.ensures

pub returns-in-Ok-clause-distinct : goal.returns-in-Ok-clause-distinct
returns-in-Ok-clause-distinct c =
    let made = c.in-Ok.made in
    are_distinct made.program made.space made.system c.in-Ok.ensures.linked.system_of (c.in-Ok.ensures.whole c.requires.named)

pub returns-in-Ok-clause-range : goal.returns-in-Ok-clause-range
returns-in-Ok-clause-range c = c.in-Ok.ensures.linked.own.range
