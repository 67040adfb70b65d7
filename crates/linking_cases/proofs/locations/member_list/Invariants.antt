use denote.Text.{Utf8}
use denote.Shadow.{shadow}
use Rattle.linking_cases.proofs.locations.member_list.Given as goal

-- the name is text
abbrev pub invariant-loop-at : goal.invariant-loop-at
invariant-loop-at l =
    (goal.iterator-loop-at).can_next l.at-iterator ×
    (goal.iterator-loop-at).is_finite l.at-iterator ×
    shadow (Utf8 l.name)
