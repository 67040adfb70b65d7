use Rattle.std.proofs.Common.{◌-◌, length}
use Rattle.ref_state.proofs.run_words.Reading.{Going}
use Rattle.ref_state.proofs.run_words.words.words_in.Given as goal

abbrev pub invariant-loop-at : goal.invariant-loop-at
invariant-loop-at l = Going l.text l.at l.words.items

abbrev pub decreases-loop-at : goal.decreases-loop-at
decreases-loop-at l = length l.initial.text - l.at
