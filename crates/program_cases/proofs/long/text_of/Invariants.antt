-- Each piece is text.
use denote.Text.{Utf8}
use denote.Shadow.{shadow}
use Rattle.program_cases.proofs.long.text_of.Given as goal

abbrev pub invariant-loop-at : goal.invariant-loop-at
invariant-loop-at l =
    (goal.iterator-loop-at).can_next l.at-iterator ×
    (goal.iterator-loop-at).is_finite l.at-iterator ×
    shadow (Utf8 l.piece)
