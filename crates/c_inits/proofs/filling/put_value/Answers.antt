use Rattle.std.proofs.Common.{◌∙◌, sym}
use Rattle.c_types.specs.Table.{type_of}
use Rattle.c_inits.specs.Tables.{type_shape}
use Rattle.c_inits.specs.Filling.{whole_put}
use Rattle.c_inits.proofs.Puts.{value_whole}
use Rattle.c_inits.proofs.filling.put_value.Goals as goal

pub returns-in_ok-put_whole-in-None : goal.returns-in_ok-put_whole-in-None
returns-in_ok-put_whole-in-None c = (
  whole_put c.args.node,
  value_whole (type_shape c.args.types.now c.args.limit c.args.id.0) c.args.node (type_of c.args.types.now c.args.value.ty.0) c.args.value.text c.fits_whole.result c.fits_whole.ensures c.if-not-fits_whole.false (sym c.in-None.is ∙ c.length_in.ensures),
  c.in_ok-put_whole-in-None.ensures,
)
