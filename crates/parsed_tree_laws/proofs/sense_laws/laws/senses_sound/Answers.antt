use Rattle.parsed_tree_laws.proofs.sense_laws.All.{senses_sound}
use Rattle.parsed_tree_laws.proofs.sense_laws.laws.senses_sound.Goals as goal

pub returns : goal.returns
returns c = λ entities s senses are first ints grammar fit i. senses_sound entities s senses are first ints grammar fit i
