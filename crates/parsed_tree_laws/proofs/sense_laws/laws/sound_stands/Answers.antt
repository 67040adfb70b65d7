use Rattle.parsed_tree_laws.proofs.sense_laws.Below.{sound_under}
use Rattle.parsed_tree_laws.proofs.sense_laws.Standing.{node_stands}
use Rattle.parsed_tree_laws.proofs.sense_laws.laws.sound_stands.Goals as goal

pub returns : goal.returns
returns c = λ w entities u ready backs i j n m at h under at'. node_stands w entities u ready backs j m at' (sound_under w entities u ready i j under h)
