use Rattle.name_chains.proofs.symbol_lists.Kept.{number_updated}
use Rattle.name_chains.proofs.symbol_lists.maps.put_count.Goals as goal

pub returns : goal.returns
returns c = λ other. number_updated c.args.symbol c.args.counts.now c.insert.new.self c.args.count c.in_ok-insert.ensures.updates other
