use Rattle.std.proofs.Common.{◌∙◌}
use Rattle.name_chains.proofs.symbol_lists.Kept.{found_number}
use Rattle.unit_names.proofs.firsts.kept_first.Goals as goal

pub returns : goal.returns
returns c = c.copied.ensures ∙ (c.get.ensures.value ∙ found_number c.args.symbol c.args.firsts.now.entries)
