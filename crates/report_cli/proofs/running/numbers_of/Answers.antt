use Rattle.std.proofs.Common.{rules, ◌≤◌, ◌^◌, length}
use Rattle.report_cli.specs.Scripts.{named}
use Rattle.report_cli.proofs.Scripted.{words_refused}
use Rattle.report_cli.proofs.running.numbers_of.Goals as goal

pub returns-in_ok-words_refusal-in-Err-clause-refused : goal.returns-in_ok-words_refusal-in-Err-clause-refused
returns-in_ok-words_refusal-in-Err-clause-refused c =
    let short : length c.args.words.text.now ≤ 2 ^ 24 = search rules in
    words_refused (named c.args.words) c.in-Err.fault _ short c.in-Err.ensures c.in_ok-words_refusal-in-Err.ensures
