use Rattle.std.proofs.Common.{◌+◌, drop}
use Rattle.std.specs.Prelude.{zip}
use Rattle.text_units.specs.Answers.{names_of}
use Rattle.text_units.proofs.Refused.{IsLoweredTo}
use Rattle.text_units.proofs.lowered.in_turn.Given as goal

-- what was lowered is that of the texts so far
abbrev pub invariant-loop-at : goal.invariant-loop-at
invariant-loop-at g l = record {
  lowered : IsLoweredTo l.first (zip (names_of l.names) l.texts) (drop l.at (zip (names_of l.names) l.texts)) (l.first + l.at) l.units.items;
}
