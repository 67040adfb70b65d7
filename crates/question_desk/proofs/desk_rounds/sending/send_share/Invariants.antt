use Rattle.std.proofs.Common.{◌≤◌, length}
use Rattle.question_desk.specs.Calls.{sent, IsSenderOf}
use Rattle.question_desk.proofs.desk_rounds.sending.send_share.Given as goal

-- at most so many questions were sent
abbrev pub invariant-loop-number : goal.invariant-loop-number
invariant-loop-number g l = IsSenderOf l.line.desk.now l.mine × (length (sent l.mine) ≤ l.number)
