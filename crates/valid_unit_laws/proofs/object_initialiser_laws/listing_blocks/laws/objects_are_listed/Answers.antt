use Rattle.valid_unit_laws.proofs.object_initialiser_laws.listing_blocks.Whole.{objects_are_listed}
use Rattle.valid_unit_laws.proofs.object_initialiser_laws.listing_blocks.laws.objects_are_listed.Goals as goal

pub returns : goal.returns
returns c = objects_are_listed
