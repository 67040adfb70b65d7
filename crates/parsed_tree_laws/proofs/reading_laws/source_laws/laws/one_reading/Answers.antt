use Rattle.parsed_tree_laws.proofs.reading_laws.source_laws.Reading.{same_begin, one_refusal, not_whole, not_right}
use Rattle.parsed_tree_laws.proofs.reading_laws.source_laws.laws.one_reading.Goals as goal

pub returns : goal.returns
returns c = record {
  senses = λ s xs ys a b h. same_begin s xs ys a b h;
  refusal = λ s kind other node there r q. one_refusal s kind other node there r q;
  whole = λ s senses kind node a h r. not_whole s senses kind node a h r;
  either = λ s name u kind node h r. not_right s name u kind node h r;
}
