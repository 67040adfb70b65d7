use Rattle.std.proofs.Common.{◌≡◌}
use Rattle.question_desk.specs.Calls.{sent, IsSenderOf}
use Rattle.question_desk.proofs.desk_rounds.sending.is_sent.Given as goal

-- nothing was sent so far
abbrev pub invariant-loop : goal.invariant-loop
invariant-loop g l = IsSenderOf l.desk l.sender × (sent l.sender ≡ sent l.fn.sender)
