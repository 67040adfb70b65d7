use Rattle.std.proofs.Common.{rules, ◌≤◌, ◌^◌, length, refl}
use Rattle.report_cli.proofs.Scripted.{answers_printed}
use Rattle.report_cli.proofs.solved.answers_to.Goals as goal

pub returns-in-Ok-clause-printed : goal.returns-in-Ok-clause-printed
returns-in-Ok-clause-printed g c =
    let short : length c.args.script.text.now ≤ 2 ^ 24 = search rules in
    (answers_printed c.args.made.program c.args.made.space c.args.made.system (c.args.script.name.now, c.args.script.text.now) c.in-Ok.text.items short c.requires.system c.in-Ok.ensures.answered, refl)
