use Rattle.round_pieces.specs.Rounds.{AreRowsApart}
use Rattle.round_pieces.proofs.Blocks.{OfPieces}
use Rattle.round_pieces.proofs.dealing.dealt.Given as goal

abbrev pub invariant-loop-i : goal.invariant-loop-i
invariant-loop-i l = record {
  rows : OfPieces l.out.items l.todo l.workers l.i;
  once : AreRowsApart l.todo → AreRowsApart l.out.items;
}
