use Rattle.std.proofs.Common.{length, take}
use Rattle.round_pieces.proofs.Marking.{Put}
use Rattle.round_pieces.proofs.ordering.put_once.Given as goal

abbrev pub invariant-loop-row : goal.invariant-loop-row
invariant-loop-row l = Put l.initial.out.items l.out.items (take l.row-index l.list) (length l.initial.marks.items) l.marks.items
