use Rattle.std.proofs.Common.{◌≡◌, ◌*◌}
use Rattle.std.specs.List.{filter, range_with_len}
use Rattle.sol_model.specs.Families.{shown}
use Rattle.call_graph.proofs.row_members.members.members_of.Given as goal

abbrev pub invariant-loop-number : goal.invariant-loop-number
invariant-loop-number l = l.list.items ≡ filter (shown l.rows.width l.rows.words l.row) (range_with_len 0 (64 * l.number))
