use Rattle.std.proofs.Common.{◌≡◌, ◌*◌}
use Rattle.std.specs.List.{filter, range_with_len}
use Rattle.sol_model.specs.Families.{shown}
use Rattle.side_reports.proofs.effects_text.held.held_by.Given as goal

-- the members that the words so far show
abbrev pub invariant-loop-number : goal.invariant-loop-number
invariant-loop-number l = l.held.items ≡ filter (shown l.rows.width l.rows.words l.row) (range_with_len 0 (64 * l.number))
