use Rattle.c_types.specs.Table.{type_of}
use Rattle.ref_elements.proofs.SameTypes.{told}
use Rattle.ref_elements.proofs.parts.same_type.Goals as goal

pub returns : goal.returns
returns c = told c.same.result (type_of c.args.types.now c.args.a.0) (type_of c.args.types.now c.args.b.0) c.same.ensures
