use Rattle.c_types.specs.Table.{type_of}
use Rattle.core_nodes.proofs.SameTypes.{same_by}
use Rattle.core_nodes.proofs.sorts.same_types.Goals as goal

pub returns : goal.returns
returns c = same_by c.same.result (type_of c.args.types.now c.args.a.0) (type_of c.args.types.now c.args.b.0) c.same.ensures
