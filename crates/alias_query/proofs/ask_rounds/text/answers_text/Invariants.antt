use Rattle.std.proofs.Common.{◌≡◌, ◌++◌, codes, take}
use Rattle.std.specs.List.{flat_map}
use Rattle.alias_query.specs.ask_rounds.Said.{line_of}
use Rattle.alias_query.proofs.ask_rounds.text.answers_text.Given as goal

abbrev pub invariant-loop-answer : goal.invariant-loop-answer
invariant-loop-answer l = l.text.items ≡ codes "ask 1\n" ++ flat_map line_of (take l.answer-index l.answers)
