use Rattle.std.proofs.Common.{refl}
use Rattle.c_lexer.specs.Spellings.{keywords, punctuators}
use Rattle.c_grammar.specs.Numbers.{SpeaksOfWords}
use Rattle.c_grammar.proofs.laws.numbers_of_words.Goals as goal

pub returns-clause-words : goal.returns-clause-words
unfolding SpeaksOfWords keywords punctuators
returns-clause-words c = (refl, refl)
