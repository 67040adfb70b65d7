use Rattle.std.proofs.Common.{◌≡◌, ℕ, List, length, ap, subst, arith}
use Rattle.set_rows.specs.Calls.{view}
use Rattle.round_pieces.specs.Rounds.{IsRest}
use Rattle.round_settling.proofs.growth.rows_to_do.Goals as goal

pub returns-then-len-ne0-clause-done : goal.returns-then-len-ne0-clause-done
returns-then-len-ne0-clause-done c none = absurd (let n : length c.in_ok-grown.grown.items ≡ 0 = ap (λ (xs : List ℕ). length xs) none in let e = c.len.ensures in let k = c.in_ok-grown.grown.ok in let z = c.if-len-ne0.true in omega arith)

pub returns-clause-done : goal.returns-clause-done
returns-clause-done c none = subst (IsRest (view c.still_grown.new.seat) c.args.done.now) none c.in_ok-left.ensures.rest
