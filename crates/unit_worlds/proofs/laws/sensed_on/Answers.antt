use Rattle.unit_worlds.proofs.Sensing.{senses_more}
use Rattle.unit_worlds.proofs.laws.sensed_on.Goals as goal

pub returns : goal.returns
returns c = λ s senses x before inside fits. senses_more s senses x before inside fits
