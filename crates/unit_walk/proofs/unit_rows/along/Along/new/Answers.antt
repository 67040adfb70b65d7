use Rattle.std.proofs.Common.{[]}
use Rattle.unit_walk.proofs.unit_rows.along.Along.new.Goals as goal

pub returns-clause-along : goal.returns-clause-along
returns-clause-along c = λ syntax. record {
  lists = c.new-2.ensures syntax [];
  unions = c.in-Ok.ensures;
  linkages = c.in_ok-linkages.ensures.linkages syntax [];
}
