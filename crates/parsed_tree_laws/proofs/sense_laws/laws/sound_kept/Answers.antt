use Rattle.parsed_tree_laws.proofs.sense_laws.Growing.{sound_grown}
use Rattle.parsed_tree_laws.proofs.sense_laws.laws.sound_kept.Goals as goal

pub returns : goal.returns
returns c = λ old new entities x grows h. sound_grown old new entities grows x h
