use Rattle.std.proofs.Common.{◌≤◌}
use Rattle.new_members.proofs.Bits.{Lists, IsListed}
use Rattle.new_members.proofs.lists.new_between.Given as goal

abbrev pub invariant-loop-k : goal.invariant-loop-k
invariant-loop-k l = record {
  ordered : l.k ≤ l.end;
  from : l.first ≤ l.k;
  listed : Lists l.list.items (IsListed l.words l.without l.first l.k);
}
