use Rattle.std.proofs.Common.{◌∙◌}
use Rattle.c_scope.proofs.Keys.{found_at}
use Rattle.c_scope.proofs.binding.label_at.Goals as goal

pub returns : goal.returns
returns c = c.copied.ensures ∙ (c.get.ensures.value ∙ found_at c.args.body c.args.symbol c.args.labels.now.entries)
