use Rattle.std.proofs.Common.{◌≡◌, ◌≤◌, ◌-◌, ◌/◌, ◌^◌, ◌++◌}
use Rattle.std.specs.List.{filter, range_with_len}
use Rattle.call_graph.specs.row_members.Words.{has_bit}
use Rattle.call_graph.proofs.row_members.members.list_bits.Given as goal

abbrev pub invariant-loop-left : goal.invariant-loop-left
invariant-loop-left l = record {
  within : l.next ≤ 64;
  left : l.left ≡ l.word / 2 ^ l.next;
  listed : l.list.items ≡ l.initial.list.items ++ filter (has_bit l.word l.base) (range_with_len l.base l.next);
}

abbrev pub decreases-loop-left : goal.decreases-loop-left
decreases-loop-left l = 64 - l.next
