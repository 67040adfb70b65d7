use Rattle.std.proofs.Common.{◌∙◌}
use Rattle.c_scope.proofs.Keys.{found_at}
use Rattle.name_chains.proofs.symbol_lists.maps.leaf_of.Goals as goal

pub returns : goal.returns
returns c = c.copied.ensures ∙ (c.get.ensures.value ∙ found_at c.args.symbol c.args.place c.args.leaves.now.entries)
