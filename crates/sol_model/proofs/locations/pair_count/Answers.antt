use Rattle.std.proofs.Common.{◌∙◌, sym, ap, length}
use Rattle.sol_model.proofs.Pairs.{deep_is}
use Rattle.sol_model.proofs.locations.pair_count.Goals as goal

pub returns : goal.returns
returns c =
    c.count_pairs.ensures c.args.to c.args.from
    ∙ rw (c.nodes_of-to_nodes.ensures, c.nodes_of-from_nodes.ensures)
    (sym (ap length (deep_is c.args.system.now c.location_fact-target.result c.location_fact-source.result c.args.to c.args.from c.location_fact-target.ensures.value c.location_fact-source.ensures.value)))
