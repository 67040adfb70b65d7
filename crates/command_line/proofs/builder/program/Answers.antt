use Rattle.std.proofs.Common.{codes}
use Rattle.std.proofs.lemmas.Result.{IfOk-weaker}
use Rattle.command_line.specs.Language.{flag, positional_words, value_option}
use Rattle.command_line.proofs.Program.{added}
use Rattle.command_line.proofs.builder.program.Goals as goal

pub returns : goal.returns
returns c =
    let one = added _ _ _ (value_option (codes "workers")) c.in_ok-command.ensures c.bare-command.ensures in
    let two = added _ _ _ (value_option (codes "ask")) c.in_ok-command-2.ensures one in
    let three = added _ _ _ (flag (codes "json")) c.in_ok-command-3.ensures two in
    let four = added _ _ _ (value_option (codes "gen")) c.in_ok-command-4.ensures three in
    let five = added _ _ _ (value_option (codes "run")) c.in_ok-command-5.ensures four in
    let six = added _ _ _ (flag (codes "desk")) c.in_ok-command-6.ensures five in
    let seven = added _ _ _ (flag (codes "effects")) c.in_ok-command-7.ensures six in
    let eight = added _ _ _ (flag (codes "stops")) c.in_ok-command-8.ensures seven in
    let nine = added _ _ _ (value_option (codes "entry")) c.in_ok-command-9.ensures eight in
    IfOk-weaker c.with_words.result _ _ (λ m h. added _ _ _ (positional_words (codes "unit")) h nine) c.with_words.ensures
