use Rattle.std.proofs.Common.{◌∙◌}
use Rattle.name_chains.proofs.symbol_lists.lists.SymbolLists.get.Goals as goal

pub returns : goal.returns
returns c = λ ds says. c.leaf_of.ensures ∙ says.each c.args.symbol c.args.place
