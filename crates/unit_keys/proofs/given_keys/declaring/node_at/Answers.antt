use Rattle.std.proofs.Common.{◌∙◌}
use Rattle.c_scope.proofs.Keys.{found_at}
use Rattle.unit_keys.proofs.given_keys.declaring.node_at.Goals as goal

pub returns : goal.returns
returns c = c.copied.ensures ∙ (c.get.ensures.value ∙ found_at c.args.scope c.args.symbol c.args.places.now.entries)
