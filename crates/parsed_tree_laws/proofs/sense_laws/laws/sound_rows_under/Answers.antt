use Rattle.std.proofs.Common.{refl, ◌<◌, length}
use Rattle.std.proofs.lemmas.Option.{slice_get_within}
use Rattle.c_types.specs.Table.{type_of}
use Rattle.c_senses.specs.passed.c_consts.Nodes.{bare}
use Rattle.parsed_tree_laws.proofs.sense_laws.Below.{sound_under}
use Rattle.parsed_tree_laws.proofs.sense_laws.Bridge.{constant_row, below_all, stands_over}
use Rattle.parsed_tree_laws.proofs.sense_laws.laws.sound_rows_under.Goals as goal

pub returns : goal.returns
returns c = λ w entities u ready i j m h under at kind.
    let lt : j < length u.nodes.items = slice_get_within u.nodes.items j m at in
    constant_row u ready (bare u.types u.nodes.items) refl refl w entities m.kind (type_of u.types m.ty.0) m.children (below_all w entities u ready j m at lt) kind (stands_over w entities u ready j m at (sound_under w entities u ready i j under h))
