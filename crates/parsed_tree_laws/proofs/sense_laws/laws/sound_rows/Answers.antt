use Rattle.std.proofs.Common.{refl, ◌<◌, length}
use Rattle.std.proofs.lemmas.Option.{slice_get_within}
use Rattle.c_types.specs.Table.{type_of}
use Rattle.c_senses.specs.passed.c_consts.Nodes.{bare}
use Rattle.parsed_tree_laws.proofs.sense_laws.Bridge.{constant_row, below_all, stands_over}
use Rattle.parsed_tree_laws.proofs.sense_laws.laws.sound_rows.Goals as goal

pub returns : goal.returns
returns c = λ w entities u ready sound. record {
  order = ready;
  rows = λ i n at k.
      let lt : i < length u.nodes.items = slice_get_within u.nodes.items i n at in
      constant_row u ready (bare u.types u.nodes.items) refl refl w entities n.kind (type_of u.types n.ty.0) n.children (below_all w entities u ready i n at lt) k (stands_over w entities u ready i n at (sound i lt));
}
