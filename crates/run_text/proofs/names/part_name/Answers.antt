use Rattle.std.proofs.Common.{◌∙◌, ap}
use Rattle.run_text.specs.Names.{name_at}
use Rattle.run_text.proofs.Spots.{spot_is}
use Rattle.run_text.proofs.names.part_name.Goals as goal

pub returns : goal.returns
returns c = c.name_at.ensures ∙ ap (name_at c.args.space.now) (spot_is _ _ _ _ _ c.spot.ensures)
