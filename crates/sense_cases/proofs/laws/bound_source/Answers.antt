use Rattle.std.proofs.Common.{ap, sym}
use Rattle.c_senses.specs.Names.{source_of, source_with}
use Rattle.sense_cases.proofs.laws.bound_source.Goals as goal

pub returns : goal.returns
unfolding source_of
returns c = λ tokens tree bound b. ap (source_with tokens tree) (sym b.uses)
