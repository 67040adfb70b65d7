use Rattle.std.proofs.Common.{List, ap, sym}
use Rattle.c_scope.specs.declared.kinds.Declared.{Declared}
use Rattle.c_senses.specs.Sense.{sense_in}
use Rattle.c_results.specs.Standing.{senses_made}
use Rattle.tree_reads.specs.Sources.{source_in}
use Rattle.name_chains.proofs.Linked.{listed-none}
use Rattle.c_meanings.specs.Statics.{some_static}
use Rattle.c_meanings.proofs.statics.nothing_seen.Goals as goal

pub returns : goal.returns
returns c = λ syntax results names. record {
  last = tt;
  flag = λ u uses. sym (ap (λ (l : List Declared). some_static (source_in syntax uses) (sense_in (senses_made u results)) l) (listed-none names.chains.links.items));
}
