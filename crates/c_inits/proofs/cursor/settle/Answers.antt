use Rattle.std.proofs.Common.{◌∙◌}
use Rattle.c_types.specs.Table.{type_of}
use Rattle.c_inits.specs.Tables.{type_shape}
use Rattle.c_inits.specs.Cursor.{path_of}
use Rattle.c_inits.proofs.Settle.{takes}
use Rattle.c_inits.proofs.cursor.settle.Goals as goal

pub returns-clause-place : goal.returns-clause-place
returns-clause-place c =
    c.onward.invariant.same
    ∙ takes c.args.types.now c.args.limit (type_of c.args.types.now c.args.value.ty.0) c.args.value.text (type_shape c.args.types.now c.args.limit c.args.root.0) (path_of c.onward.frames.items) c.onward.here.0 c.fits_whole.result c.fits_whole.ensures c.onward-test.false c.onward.invariant.at
