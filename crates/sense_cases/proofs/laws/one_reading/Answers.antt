use Rattle.std.proofs.Common.{sym, ◌∙◌}
use Rattle.sense_cases.proofs.Readings.{decided, same_length, no_farther, one_refusal}
use Rattle.std.proofs.lemmas.Option.{slice_get_within}
use Rattle.std.proofs.Common.{arith, length}
use Rattle.sense_cases.proofs.laws.one_reading.Goals as goal

pub returns : goal.returns
returns c = record {
  decided = λ s. decided s;
  senses = λ s one other a e b f. same_length s one other a b (e ∙ sym f);
  refusal = λ s k l m n a b. one_refusal s k l m n a b;
  either = λ s senses k n a e r. let p = slice_get_within s.nodes (length r.senses) r.node r.stands in no_farther s senses a k n r (omega (arith, e, p));
}
