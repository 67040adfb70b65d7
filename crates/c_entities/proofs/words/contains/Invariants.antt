use Rattle.std.proofs.Common.{◌≡◌, drop}
use Rattle.c_grammar.specs.Terminals.{contains}
use Rattle.c_entities.proofs.words.contains.Given as goal

-- what is among the rest is among all
abbrev pub invariant-loop-other : goal.invariant-loop-other
invariant-loop-other l = contains (drop l.other-index l.words) l.word ≡ contains l.words l.word
