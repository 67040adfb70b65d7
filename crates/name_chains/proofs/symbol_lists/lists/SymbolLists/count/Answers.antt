use Rattle.std.proofs.Common.{◌∙◌}
use Rattle.name_chains.proofs.symbol_lists.lists.SymbolLists.count.Goals as goal

pub returns : goal.returns
returns c = λ ds says. c.count_of.ensures ∙ says.counted c.args.symbol
