use Rattle.new_members.proofs.Bits.{Grows}
use Rattle.new_members.proofs.lists.put_bits.Given as goal

abbrev pub invariant-loop-k : goal.invariant-loop-k
invariant-loop-k l = Grows l.initial.list.items l.list.items l.word l.base l.k
