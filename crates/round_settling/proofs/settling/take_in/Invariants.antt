use Rattle.std.proofs.Common.{take}
use Rattle.new_members.specs.News.{Extends}
use Rattle.round_pieces.specs.Rounds.{IsTakenIn}
use Rattle.round_settling.specs.Extents.{AreExtents}
use Rattle.round_settling.proofs.settling.take_in.Given as goal

abbrev pub invariant-loop-turn : goal.invariant-loop-turn
invariant-loop-turn l = record {
  kept : Extends l.initial.book l.book;
  taken : IsTakenIn l.system (take l.turn-index l.turns) l.initial.done l.done l.initial.book l.book l.initial.facts.items l.facts.items;
  extents : AreExtents l.done l.extents.items;
}
