use Rattle.c_senses.specs.Given.{Fits, Refuses}
use Rattle.sense_cases.proofs.Running.{come_to}
use Rattle.sense_cases.proofs.laws.computed.Goals as goal

pub returns : goal.returns
returns c = record {
  senses = λ s senses e. come_to s (Fits senses) e;
  refusal = λ s kind named e. come_to s (Refuses kind named) e;
}
