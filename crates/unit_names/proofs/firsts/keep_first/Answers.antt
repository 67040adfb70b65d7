use Rattle.name_chains.proofs.symbol_lists.Kept.{number_updated}
use Rattle.unit_names.proofs.firsts.keep_first.Goals as goal

pub returns-in-Ok-clause-kept : goal.returns-in-Ok-clause-kept
returns-in-Ok-clause-kept c = λ other. number_updated c.args.symbol c.args.firsts.now c.insert.new.self c.args.leaf c.in-Ok.ensures.updates other
