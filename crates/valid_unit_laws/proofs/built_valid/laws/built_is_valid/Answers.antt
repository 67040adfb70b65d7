use Rattle.valid_unit_laws.proofs.built_valid.Whole.{built_is_valid}
use Rattle.valid_unit_laws.proofs.built_valid.laws.built_is_valid.Goals as goal

pub returns : goal.returns
returns c = λ tokens unit tree tag_number name u bound cut is bind built rest. built_is_valid tokens unit tree tag_number name u bound cut is bind built rest
