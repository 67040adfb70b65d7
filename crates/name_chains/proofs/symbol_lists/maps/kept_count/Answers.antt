use Rattle.std.proofs.Common.{◌∙◌}
use Rattle.name_chains.proofs.symbol_lists.Kept.{found_number}
use Rattle.name_chains.proofs.symbol_lists.maps.kept_count.Goals as goal

pub returns : goal.returns
returns c = c.copied.ensures ∙ (c.get.ensures.value ∙ found_number c.args.symbol c.args.counts.now.entries)
