use Rattle.std.proofs.Common.{◌≡◌, ◌*◌, ◌++◌}
use Rattle.std.specs.List.{filter, range_with_len}
use Rattle.sol_model.specs.Families.{members}
use Rattle.side_reports.proofs.effects_text.held.push_word.Given as goal

-- the members among the locations so far were added
abbrev pub invariant-loop-i : goal.invariant-loop-i
invariant-loop-i l = l.held.items ≡ l.initial.held.items ++ filter (members l.rows l.row) (range_with_len (64 * l.number) l.i)
